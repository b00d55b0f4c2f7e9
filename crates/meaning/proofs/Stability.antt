-- The stability test says stable exactly of stable tables, and each other answer is true and the first in its order.
-- Assumes nothing.
use Prim.Native.Nat.{ℕ, zero, suc, ◌+◌, ◌≤◌, ◌<◌}
use mathlib.Core.Path.{◌≡◌, refl, ap, subst}
use mathlib.Core.Logic.{⊎_elim}
use mathlib.Core.Bool.{Bool, true, false, not}
use mathlib.Core.Option.{Option, none, some}
use mathlib.Core.List.{List, [], ◌∷◌}
use native.Mathlib.Omega.{arith}
use lib.Dec.{ltb}
use borrow.Author.Tests.{ltb-true, ltb-false, lt-ltb, not-true}
use Rattle.meaning.specs.Numbers.{◌&◌}
use Rattle.meaning.specs.Lists.{place}
use Rattle.meaning.specs.Full.{Full}
use Rattle.meaning.specs.Market.{Market, trainee_list, market, Ranged, Table, Mutual, mutual?, placed, Blocks, Stable}
use Rattle.meaning.specs.Endings.{table_of, blocks?}
use Rattle.meaning.specs.Stability.{first_stranger, first_over, first_on, blocking_or, blocking_from, stranger_or, over_or, test_by, test}
use Rattle.meaning.specs.Truth.{TestSays, says_stable, says_stranger, says_over, says_blocking}
use Rattle.meaning.proofs.Booleans.{true-or-false, never, and_left, and_right, and_intro}
use Rattle.meaning.proofs.Numbers.{same, Smallest, least, no-least, smallest-is}
use Rattle.meaning.proofs.Lists.{place-cases, place-later, place_here}
use Rattle.meaning.proofs.Pairs.{mutual-is, is-mutual}
use Rattle.meaning.proofs.Full.{LegalFull, ranged-market, listed}
use Rattle.meaning.proofs.Matchings.{blocks_is, is-blocks}
use Rattle.meaning.specs.declared.Tested.{Tested}
use Rattle.meaning.specs.declared.Tested.TheVariants.{Blocking}

-- what stands highest on a list of those that block with trainee i
pub data FirstOn (K : Market) (M : Table) (i : ℕ) (l : List ℕ) : Option ℕ → Type 0 where
  on-at : (j : ℕ) → 0 < place l j → blocks? K M i j ≡ true → ((z : ℕ) → 0 < place l z → place l z < place l j → blocks? K M i z ≡ false)
      → FirstOn K M i l (some j)
  on_none : ((z : ℕ) → 0 < place l z → blocks? K M i z ≡ false) → FirstOn K M i l none

first_on_lem : (K : Market) (M : Table) (i : ℕ) (l : List ℕ) → FirstOn K M i l (first_on K M i l)
unfolding first_on place
first_on_lem K M i [] = on_none (λ z p. absurd (omega arith))
first_on_lem K M i (j ∷ js) = go (blocks? K M i j) refl (first_on K M i js) (first_on_lem K M i js)
  where
    go : (b : Bool) → blocks? K M i j ≡ b → (o : Option ℕ) → FirstOn K M i js o → FirstOn K M i (j ∷ js) (elim b [ true ↦ some j | false ↦ o ])
    go true e o f = on-at j (omega (arith, place_here j js j refl)) e (λ z p l. absurd (omega (arith, place_here j js j refl)))
    go false e _ (on_none h) =
        on_none (λ z p. ⊎_elim (λ q. subst (λ y. blocks? K M i y ≡ false) q e) (λ p'. h z p') (place-cases j js z p))
    go false e _ (on-at x p t h) = on-at x (omega (arith, place-later j js x apart p)) t
        (λ z p' l. ⊎_elim
        (λ q. subst (λ y. blocks? K M i y ≡ false) q e)
        (λ (p'' : 0 < place js z). ⊎_elim
        (λ (q : j ≡ z). subst (λ y. blocks? K M i y ≡ false) q e)
        (λ nq. h z p'' (omega (arith, l, place-later j js x apart p, place-later j js z nq p'')))
        (same j z))
        (place-cases j js z p'))
      where
        apart : j ≡ x → ⊥
        apart q = never t (subst (λ y. blocks? K M i y ≡ false) q e)

module _ (K : Market) (ranged : Ranged K) (lists : ℕ → List ℕ) (listed : (i j : ℕ) → K.trainee_rank i j ≡ place (lists i) j) (M : Table) where
  -- no pair of the trainees before a blocks
  data BlockingFrom (d a : ℕ) : Tested → Type 0 where
    blocking-at : (i j : ℕ) → a ≤ i → i < a + d → Blocks K M i j → ((i' j' : ℕ) → a ≤ i' → i' < i → Blocks K M i' j' → ⊥)
        → ((j' : ℕ) → K.trainee_rank i j' < K.trainee_rank i j → Blocks K M i j' → ⊥) → BlockingFrom d a (Blocking i j)
    none-blocks : ((i j : ℕ) → a ≤ i → i < a + d → Blocks K M i j → ⊥) → BlockingFrom d a Tested.Stable

  on_list : (i j : ℕ) → Blocks K M i j → 0 < place (lists i) j
  on_list i j b = rw listed at b.pair.ranks

  blocking-from : (d a : ℕ) → BlockingFrom d a (blocking_from K lists M d a)
  unfolding blocking_from blocking_or
  blocking-from zero a = none-blocks (λ i j l u b. omega arith)
  blocking-from (suc d) a = go _ (first_on_lem K M a (lists a)) (blocking_from K lists M d (suc a)) (blocking-from d (suc a))
    where
      go : (o : Option ℕ) → FirstOn K M a (lists a) o → (r : Tested) → BlockingFrom d (suc a) r → BlockingFrom (suc d) a (blocking_or a o r)
      go _ (on-at j p t h) r w =
          blocking-at a j (omega arith) (omega arith) (blocks_is K M a j t) (λ i' j' l u b. omega arith)
          (λ j' l b. never (is-blocks K M a j' b) (h j' (on_list a j' b) (omega (arith, l, listed a j', listed a j))))
      go _ (on_none h) _ (blocking-at i j l u b h₁ h₂) =
          blocking-at i j (omega arith) (omega arith) b
          (λ i' j' l' u' b'. ⊎_elim
          (λ (q : i' ≡ a). never (is-blocks K M a j' (subst (λ x. Blocks K M x j') q b')) (h j' (on_list a j' (subst (λ x. Blocks K M x j') q b'))))
          (λ nq. h₁ i' j' (omega arith) u' b')
          (same i' a)) h₂
      go _ (on_none h) _ (none-blocks g) =
          none-blocks (λ i j l u b. ⊎_elim
          (λ (q : i ≡ a). never (is-blocks K M a j (subst (λ x. Blocks K M x j) q b)) (h j (on_list a j (subst (λ x. Blocks K M x j) q b))))
          (λ nq. g i j (omega arith) (omega arith) b)
          (same i a))

  pub test-says : TestSays K M (test_by K lists M)
  unfolding test_by stranger_or over_or first_stranger first_over
  test-says = go _ (smallest-is K.n (λ i. ltb 0 (M i) & not (mutual? K i (M i)))) _ (smallest-is K.m (λ j. ltb (K.posts j) (placed K M j)))
      (blocking_from K lists M K.n 1) (blocking-from K.n 1)
    where
      pairs : (i : ℕ) → (ltb 0 (M i) & not (mutual? K i (M i))) ≡ false → 0 < M i → Mutual K i (M i)
      pairs i u l = ⊎_elim
          (λ t. mutual-is K i (M i) t)
          (λ f. absurd (never (and_intro (lt-ltb _ _ l) (ap not f)) u))
          (true-or-false (mutual? K i (M i)))

      go : (s : Option ℕ) → Smallest K.n (λ i. ltb 0 (M i) & not (mutual? K i (M i))) s
          → (o : Option ℕ) → Smallest K.m (λ j. ltb (K.posts j) (placed K M j)) o
          → (b : Tested) → BlockingFrom K.n 1 b → TestSays K M (stranger_or s (over_or o b))
      go _ (least i r t h) o w b v = says_stranger i
          (record {
            inside = r;
            has = ltb-true _ _ (and_left _ _ t);
            stranger = λ p. never (is-mutual K i (M i) p) (not-true _ (and_right (ltb 0 (M i)) _ t));
            first = λ i' r' l. pairs i' (h i' r' l);
          })
      go _ (no-least g) _ (least j r t h) b v = says_over j
          (record {
            pairs = λ i r. pairs i (g i r);
            inside = r;
            over = ltb-true _ _ t;
            first = λ j' r' l. ltb-false _ _ (h j' r' l);
          })
      go _ (no-least g) _ (no-least k) _ (blocking-at i j l u b h₁ h₂) = says_blocking i j
          (record {
            matching = record { pairs = λ i r. pairs i (g i r); within = λ j r. ltb-false _ _ (k j r) };
            blocks = b;
            trainee_first = λ i' j' l' b'. h₁ i' j' (ranged.trainee_in_range i' j' b'.pair.ranks).low l' b';
            highest = h₂;
          })
      go _ (no-least g) _ (no-least k) _ (none-blocks n) = says_stable
          (record {
            matching = record { pairs = λ i r. pairs i (g i r); within = λ j r. ltb-false _ _ (k j r) };
            unblocked = λ i j b. let r = ranged.trainee_in_range i j b.pair.ranks in n i j r.low (omega arith) b;
          })

-- ---- for a full placement

module _ (F : Full) (legal : LegalFull F) where
  pub test-answer : (l : List ℕ) → TestSays (market F) (table_of l) (test F l)
  unfolding test
  test-answer l = test-says (market F) (ranged-market F legal) (trainee_list F) (listed F) (table_of l)

  -- the test says stable exactly if the table is stable
  pub says-then-stable : (l : List ℕ) → test F l ≡ Tested.Stable → Stable (market F) (table_of l)
  says-then-stable l h = go (test F l) (test-answer l) h
    where
      go : (t : Tested) → TestSays (market F) (table_of l) t → t ≡ Tested.Stable → Stable (market F) (table_of l)
      go _ (says_stable s) q = s
      go _ (says_stranger i w) q = absurd (let z : ◌≡◌ {A = ℕ} 0 1 = cc in omega arith)
      go _ (says_over j w) q = absurd (let z : ◌≡◌ {A = ℕ} 0 1 = cc in omega arith)
      go _ (says_blocking i j w) q = absurd (let z : ◌≡◌ {A = ℕ} 0 1 = cc in omega arith)

  pub stable-then-says : (l : List ℕ) → Stable (market F) (table_of l) → test F l ≡ Tested.Stable
  stable-then-says l s = go (test F l) (test-answer l)
    where
      go : (t : Tested) → TestSays (market F) (table_of l) t → t ≡ Tested.Stable
      go _ (says_stable _) = refl
      go _ (says_stranger i w) = absurd (w.stranger (s.matching.pairs i w.inside w.has))
      go _ (says_over j w) = absurd (omega (arith, w.over, s.matching.within j w.inside))
      go _ (says_blocking i j w) = absurd (s.unblocked i j w.blocks)
