-- What the stability test's answer says: past the refusals it is the meaning's, so it says stable exactly of stable tables.
-- Assumes nothing.
use Prim.Native.Nat.{ℕ}
use mathlib.Core.Path.{◌≡◌, refl, sym, subst}
use mathlib.Core.Logic.{◌⊎◌, inl, inr}
use mathlib.Core.Bool.{true, false}
use mathlib.Core.List.{List}
use lib.ListN.{take}
use Rattle.stability.specs.Test.{long_enough, read_with, test_if_full, test_of}
use Rattle.stability.specs.Keeps.{KeepsUnlessRefused}
use Rattle.stability.proofs.Guards.{ReadTables, test_short, test-unread, read-tables}
use Rattle.meaning.specs.Full.{Full, Received, whole, lacking, full}
use Rattle.meaning.proofs.Booleans.{true-or-false}
use Rattle.meaning.proofs.Full.{legal-full}
use Rattle.meaning.proofs.Stability.{test-answer, says-then-stable, stable-then-says}
use Rattle.tables.specs.Decode.{placement_of}
use Rattle.tables.proofs.Round.{tables-back}
use Rattle.meaning.specs.declared.Tested.{Tested}
use Rattle.meaning.specs.declared.Refusal.{Refusal}
use Rattle.std.specs.Prelude.{Result}

-- an answer that is no refusal keeps what is promised
pub test-keeps : (h e o : List ℕ) (n : ℕ) (t : List ℕ) → KeepsUnlessRefused h e o n t (test_of h e o n t)
unfolding test_if_full
test-keeps h e o n t = sizing (true-or-false (long_enough h e o t))
  where
    kept : (g : ReadTables h e o n t) (r : Received Full) → full g.placement ≡ r → test_of h e o n t ≡ test_if_full r (take n t) → KeepsUnlessRefused h e o n t (test_of h e o n t)
    kept g (lacking l) q by = subst (KeepsUnlessRefused h e o n t) (sym by) tt
    kept g (whole F) q by =
        let legal = legal-full g.placement F (tables-back h e o g.placement g.held).legal q in
        subst (KeepsUnlessRefused h e o n t) (sym by)
        (record {
          placement = g.placement;
          its_full = F;
          held = g.held;
          received = q;
          trainees = g.trainees;
          stable_if = says-then-stable F legal (take n t);
          says_if = stable-then-says F legal (take n t);
          says = test-answer F legal (take n t);
        })

    reading : long_enough h e o t ≡ true → (read_with (placement_of h e o) n t ≡ true) ⊎ (read_with (placement_of h e o) n t ≡ false) → KeepsUnlessRefused h e o n t (test_of h e o n t)
    reading long (inl k) = let g = read-tables h e o n t long k in kept g (full g.placement) refl g.by
    reading long (inr u) = subst (KeepsUnlessRefused h e o n t) (test-unread h e o n t long u) tt

    sizing : (long_enough h e o t ≡ true) ⊎ (long_enough h e o t ≡ false) → KeepsUnlessRefused h e o n t (test_of h e o n t)
    sizing (inl long) = reading long (true-or-false (read_with (placement_of h e o) n t))
    sizing (inr u) = subst (KeepsUnlessRefused h e o n t) (test_short h e o n t u) tt

-- the two promises of the test, from the first
pub promised : (h e o : List ℕ) (n : ℕ) (t : List ℕ) (r : Result Tested Refusal) → r ≡ test_of h e o n t → (r ≡ test_of h e o n t) × KeepsUnlessRefused h e o n t r
promised h e o n t r q = (q, subst (KeepsUnlessRefused h e o n t) (sym q) (test-keeps h e o n t))
