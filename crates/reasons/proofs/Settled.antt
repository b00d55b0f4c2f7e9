-- Reasons 3 and 4 read off a row: everything above j is struck exactly if j's place is at most one past the first left, and down to j exactly if it is before it.
-- Assumes nothing.
use Prim.Native.Nat.{ℕ, suc, ◌+◌, ◌-◌, ◌≤◌, ◌<◌}
use mathlib.Core.Path.{◌≡◌, sym, ◌∙◌, subst}
use mathlib.Core.Logic.{⊎_elim}
use mathlib.Core.Bool.{true, false}
use mathlib.Core.List.{List}
use native.Mathlib.Omega.{arith}
use lib.ListN.{length, get_or}
use lib.Dec.{ltb, leb}
use borrow.Author.Tests.{ltb-true, lt-ltb, leb-true, le-leb, not-true, not-false}
use Rattle.reasons.specs.Rows.{marked_at, RowsHold}
use Rattle.meaning.specs.Numbers.{In}
use Rattle.meaning.specs.Lists.{place}
use Rattle.meaning.specs.Market.{Market, Ranged, Mutual}
use Rattle.meaning.specs.Strikes.{Struck, above_struck, down_struck, left?}
use Rattle.meaning.proofs.Booleans.{true-or-false, never, is_false, iff, and_left, and_right, and_intro}
use Rattle.meaning.proofs.Numbers.{order}
use Rattle.meaning.proofs.Pairs.{above-use, down-use, above-intro, down-intro}
use Rattle.meaning.proofs.Left.{left-pair, left-unstruck, is-left}
use Rattle.rows.specs.Marks.{is_marked}
use Rattle.rows.specs.Left.{first_place_left}
use Rattle.rows.proofs.FirstPlace.{before-first-marked, first-unmarked}
use Rattle.ranks.proofs.Places.{place-le, at_place, place-at-most}

module _ (K : Market) (ranged : Ranged K) (lists : ℕ → List ℕ) (listed : (i j : ℕ) → K.trainee_rank i j ≡ place (lists i) j)
    (short : (k : ℕ) → length (lists k) ≤ 64) (S : Struck) (rows : List ℕ) (hold : RowsHold K lists S rows) where
  -- what is left at a place that has no mark
  pub record LeftAt (k p : ℕ) : Type 0 where
    pub inside : p < length (lists k)
    pub left : left? K S k (get_or (lists k) p 0) ≡ true

  pub left_at : (k p : ℕ) → In K.n k → p < 64 → is_marked (get_or rows k 0) p ≡ false → LeftAt k p
  unfolding RowsHold marked_at
  left_at k p r l u =
      let t = not-false _ (sym (hold k r p l) ∙ u) in
      record { inside = ltb-true _ _ (and_left _ _ t); left = and_right (ltb p (length (lists k))) _ t }

  pub marked-at : (k p : ℕ) → In K.n k → p < 64 → is_marked (get_or rows k 0) p ≡ true → p < length (lists k) → left? K S k (get_or (lists k) p 0) ≡ false
  unfolding RowsHold marked_at
  marked-at k p r l u i = is_false _ (λ t. never (and_intro (lt-ltb _ _ i) t) (not-true _ (sym (hold k r p l) ∙ u)))

  -- a mutual pair at a place before the first left is struck
  before-first : (k j : ℕ) → Mutual K k j → K.trainee_rank k j ≤ first_place_left (get_or rows k 0) → S k j ≡ true
  before-first k j m l =
      let e : place (lists k) j ≡ suc (place (lists k) j - 1) = omega (arith, listed k j, m.ranks) in
      let at = at_place (lists k) j (place (lists k) j - 1) e in
      let p : place (lists k) j - 1 < first_place_left (get_or rows k 0) = omega (arith, listed k j, m.ranks) in
      let q = place-le (lists k) j in
      let s = short k in
      let t = ranged.trainee_in_range k j m.ranks in
      let u : left? K S k j ≡ false = subst (λ x. left? K S k x ≡ false) at
      (marked-at k (place (lists k) j - 1) t (omega arith) (before-first-marked (get_or rows k 0) (place (lists k) j - 1) p) (omega arith)) in
      ⊎_elim (λ s. s) (λ f. absurd (never (is-left K S k j m f) u)) (true-or-false (S k j))

  -- the pair at the first left, where j's place is past it
  at_first : (k j : ℕ) → Mutual K k j → first_place_left (get_or rows k 0) < K.trainee_rank k j → LeftAt k (first_place_left (get_or rows k 0))
  at_first k j m l =
      left_at k (first_place_left (get_or rows k 0)) (ranged.trainee_in_range k j m.ranks) (omega (arith, listed k j, place-le (lists k) j, short k)) (first-unmarked (get_or rows k 0))

  -- whoever is left at the first place is not struck, and stands there or above
  first-there : (k j : ℕ) → Mutual K k j → (a : LeftAt k (first_place_left (get_or rows k 0))) → K.trainee_rank k (get_or (lists k) (first_place_left (get_or rows k 0)) 0) ≤ first_place_left (get_or rows k 0) + 1
  first-there k j m a = omega (arith, listed k (get_or (lists k) (first_place_left (get_or rows k 0)) 0), place-at-most (lists k) (first_place_left (get_or rows k 0)) a.inside)

  pub above-first : (k j : ℕ) → Mutual K k j → above_struck K S k j ≡ leb (K.trainee_rank k j) (first_place_left (get_or rows k 0) + 1)
  above-first k j m = iff there back
    where
      there : above_struck K S k j ≡ true → leb (K.trainee_rank k j) (first_place_left (get_or rows k 0) + 1) ≡ true
      there t = ⊎_elim
          (λ (l : K.trainee_rank k j ≤ first_place_left (get_or rows k 0) + 1). le-leb _ _ l)
          (λ (l : first_place_left (get_or rows k 0) + 1 < K.trainee_rank k j). absurd (
          let a = at_first k j m (omega arith) in
          never (above-use K ranged S k j _ t (left-pair K S k _ a.left) (omega (arith, first-there k j m a))) (left-unstruck K S k _ a.left)))
          (order (K.trainee_rank k j) (first_place_left (get_or rows k 0) + 1))

      back : leb (K.trainee_rank k j) (first_place_left (get_or rows k 0) + 1) ≡ true → above_struck K S k j ≡ true
      back t = let b = leb-true (K.trainee_rank k j) (first_place_left (get_or rows k 0) + 1) t in above-intro K ranged S k j (λ j' m' l. before-first k j' m' (omega arith))

  pub down-first : (k j : ℕ) → Mutual K k j → down_struck K S k j ≡ leb (K.trainee_rank k j) (first_place_left (get_or rows k 0))
  down-first k j m = iff there back
    where
      there : down_struck K S k j ≡ true → leb (K.trainee_rank k j) (first_place_left (get_or rows k 0)) ≡ true
      there t = ⊎_elim
          (λ (l : K.trainee_rank k j ≤ first_place_left (get_or rows k 0)). le-leb _ _ l)
          (λ (l : first_place_left (get_or rows k 0) < K.trainee_rank k j). absurd (
          let a = at_first k j m l in
          never (down-use K ranged S k j _ t (left-pair K S k _ a.left) (omega (arith, first-there k j m a))) (left-unstruck K S k _ a.left)))
          (order (K.trainee_rank k j) (first_place_left (get_or rows k 0)))

      back : leb (K.trainee_rank k j) (first_place_left (get_or rows k 0)) ≡ true → down_struck K S k j ≡ true
      back t = let b = leb-true (K.trainee_rank k j) (first_place_left (get_or rows k 0)) t in down-intro K ranged S k j (λ j' m' l. before-first k j' m' (omega arith))
