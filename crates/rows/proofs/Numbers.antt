-- How marking a place changes the number marked and the number left. Assumes nothing.
use Prim.Native.Nat.{ℕ, zero, suc, ◌+◌, ◌≤◌, ◌<◌}
use mathlib.Core.Path.{◌≡◌, refl, sym, ap, ◌∙◌}
use mathlib.Core.Bool.{Bool, true, false, false≢true}
use mathlib.Core.List.{List, [], ◌∷◌}
use native.Mathlib.Omega.{arith}
use lib.ListN.{length, get_or, set}
use Rattle.rows.specs.Marks.{marks, is_marked, with_mark}
use Rattle.rows.specs.Left.{count_marks, number_marked, number_left}
use Rattle.rows.proofs.Marking.{marks-length, marks-with-mark}

count-at-most : (bs : List Bool) → count_marks bs ≤ length bs
unfolding count_marks
count-at-most [] = omega arith
count-at-most (true ∷ bs) = omega (arith, count-at-most bs)
count-at-most (false ∷ bs) = omega (arith, count-at-most bs)

count-one-more : (bs : List Bool) (p : ℕ) → p < length bs → get_or bs p false ≡ false → count_marks (set bs p true) ≡ suc (count_marks bs)
unfolding count_marks
count-one-more [] p h u = absurd (omega arith)
count-one-more (true ∷ bs) zero h u = absurd (false≢true (sym u))
count-one-more (true ∷ bs) (suc p) h u = ap suc (count-one-more bs p (omega arith) u)
count-one-more (false ∷ bs) zero h u = refl
count-one-more (false ∷ bs) (suc p) h u = count-one-more bs p (omega arith) u

module _ (row : ℕ) where
  pub number-at-most : number_marked row ≤ 64
  unfolding number_marked
  number-at-most = omega (arith, count-at-most (marks row), marks-length row)

  pub marked-and-left : number_marked row + number_left row ≡ 64
  unfolding number_left
  marked-and-left = omega (arith, number-at-most)

  pub one-more-marked : (p : ℕ) → p < 64 → is_marked row p ≡ false → number_marked (with_mark row p) ≡ number_marked row + 1
  unfolding number_marked
  one-more-marked p h u =
      let m : count_marks (marks (with_mark row p)) ≡ suc (count_marks (marks row)) =
      ap count_marks (marks-with-mark row p) ∙ count-one-more (marks row) p (omega (arith, marks-length row)) u in
      omega arith

pub one-fewer-left : (row p : ℕ) → p < 64 → is_marked row p ≡ false → number_left (with_mark row p) + 1 ≡ number_left row
one-fewer-left row p h u = omega (arith, one-more-marked row p h u, marked-and-left row, marked-and-left (with_mark row p))
