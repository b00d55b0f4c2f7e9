-- What is promised of the stability test that isn't refused (demand 2), in one record.
-- Assumes nothing.
use Rattle.std.specs.Prelude.{ℕ, ◌≡◌, List, length, take, Result, Ok, Err}
use Rattle.std.proofs.Math.Option.{some}
use Rattle.meaning.specs.Placement.{Placement}
use Rattle.meaning.specs.Full.{Full, whole, full}
use Rattle.meaning.specs.Market.{market, Stable}
use Rattle.meaning.specs.Endings.{table_of}
use Rattle.meaning.specs.Truth.{TestSays}
use Rattle.meaning.specs.declared.Refusal.{Refusal}
use Rattle.meaning.specs.declared.Tested.{Tested}
use Rattle.tables.specs.Decode.{placement_of}

-- r is what was found for the tables h, e, o and the table t of n trainees
pub record TestKeeps (h e o : List ℕ) (n : ℕ) (t : List ℕ) (r : Tested) : Type 0 where
  -- the tables hold a placement with everything received, of as many trainees
  pub placement : Placement
  pub its_full : Full
  pub held : placement_of h e o ≡ some placement
  pub received : full placement ≡ whole its_full
  pub trainees : n ≡ length placement.trainees
  -- stable exactly if the table is stable
  pub stable_if : r ≡ Tested.Stable → Stable (market its_full) (table_of (take n t))
  pub says_if : Stable (market its_full) (table_of (take n t)) → r ≡ Tested.Stable
  -- each answer is true, and the first in the order of document 01
  pub says : TestSays (market its_full) (table_of (take n t)) r

abbrev pub KeepsUnlessRefused : List ℕ → List ℕ → List ℕ → ℕ → List ℕ → Result Tested Refusal → Type 0
KeepsUnlessRefused h e o n t (Ok r) = TestKeeps h e o n t r
KeepsUnlessRefused h e o n t (Err q) = Unit {0}
