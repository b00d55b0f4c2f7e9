-- The marks of each row that a caller can make. Assumes nothing.
use Prim.Native.Nat.{ℕ, zero, suc, ◌+◌, ◌^◌, ◌<◌, ◌≤◌}
use mathlib.Core.Path.{◌≡◌, refl, ap, sym, ◌∙◌, subst}
use mathlib.Core.Bool.{Bool, true, false, not, false≢true}
use mathlib.Core.List.{List}
use native.Mathlib.Nat.{add-zero}
use native.Mathlib.Omega.{arith}
use borrow.Author.Tests.{eqb-true, eqb-false, ltb-true, ltb-false}
use lib.Dec.{eqb, leb, ltb}
use lib.ListN.{length, get_or, set, length-set, get_or-eq_default}
use lib.Seq.{get_or-set_same, get_or-set_other, ext_get_or}
use mir.Syntax.{w64}
use mir.Val.{Fits}
use Rattle.rows.specs.Marks.{lowest, marks, is_marked, row_of, with_mark, mark_if, tests, row_where, past_end, turned}
use Rattle.rows.proofs.Digits.{lowest-length, row-of-lowest, lowest-of-row, row_below}

-- ---- rows and marks, there and back

pub marks-length : (row : ℕ) → length (marks row) ≡ 64
unfolding marks
marks-length row = lowest-length 64 row

pub row-of-marks : (row : ℕ) → Fits w64 row → row_of (marks row) ≡ row
unfolding marks
row-of-marks row f = row-of-lowest 64 row f.fits

pub marks-of-row : (bs : List Bool) → length bs ≡ 64 → marks (row_of bs) ≡ bs
unfolding marks
marks-of-row bs l = subst (λ (n : ℕ). lowest n (row_of bs) ≡ bs) l (lowest-of-row bs)

pub row_fits : (bs : List Bool) → length bs ≡ 64 → Fits w64 (row_of bs)
row_fits bs l = record { fits = subst (λ (n : ℕ). row_of bs < 2 ^ n) l (row_below bs) }

-- no place from 64 on is marked
pub unmarked-beyond : (row p : ℕ) → 64 ≤ p → is_marked row p ≡ false
unmarked-beyond row p h = get_or-eq_default (marks row) false (omega (arith, marks-length row))

pub marked-inside : (row p : ℕ) → is_marked row p ≡ true → p < 64
marked-inside row p t = go (ltb p 64) refl
  where
    go : (b : Bool) → ltb p 64 ≡ b → p < 64
    go true e = ltb-true p 64 e
    go false e = absurd (false≢true (sym (unmarked-beyond row p (ltb-false p 64 e)) ∙ t))

-- a row is known by its marks
pub same-marks-same-row : (x y : ℕ) → Fits w64 x → Fits w64 y → ((p : ℕ) → p < 64 → is_marked x p ≡ is_marked y p) → x ≡ y
same-marks-same-row x y f g h =
    sym (row-of-marks x f)
    ∙ ap row_of (ext_get_or false (marks x) (marks y) (marks-length x ∙ sym (marks-length y)) (λ p l. h p (omega (arith, marks-length x))))
    ∙ row-of-marks y g

-- ---- a place marked

module _ (row p : ℕ) where
  set-length : length (set (marks row) p true) ≡ 64
  set-length = length-set (marks row) p true ∙ marks-length row

  pub marks-with-mark : marks (with_mark row p) ≡ set (marks row) p true
  unfolding with_mark
  marks-with-mark = marks-of-row (set (marks row) p true) set-length

  pub with-mark-fits : Fits w64 (with_mark row p)
  unfolding with_mark
  with-mark-fits = row_fits (set (marks row) p true) set-length

  pub marked-at-place : p < 64 → is_marked (with_mark row p) p ≡ true
  marked-at-place h = rw marks-with-mark (get_or-set_same (marks row) p true false (omega (arith, marks-length row)))

  pub marked-elsewhere : (q : ℕ) → (q ≡ p → ⊥) → is_marked (with_mark row p) q ≡ is_marked row q
  marked-elsewhere q n = rw marks-with-mark (get_or-set_other (marks row) p q true false n)

  -- a mark is never lost
  pub marked-still : (q : ℕ) → is_marked row q ≡ true → is_marked (with_mark row p) q ≡ true
  marked-still q t = go (eqb q p) refl
    where
      go : (b : Bool) → eqb q p ≡ b → is_marked (with_mark row p) q ≡ true
      go true e = rw (eqb-true q p e) (marked-at-place (omega (arith, marked-inside row q t, eqb-true q p e)))
      go false e = marked-elsewhere q (eqb-false q p e) ∙ t

  pub mark-if-fits : (b : Bool) → Fits w64 row → Fits w64 (mark_if row p b)
  mark-if-fits true f = with-mark-fits
  mark-if-fits false f = f

  pub mark-if-elsewhere : (b : Bool) (q : ℕ) → (q ≡ p → ⊥) → is_marked (mark_if row p b) q ≡ is_marked row q
  mark-if-elsewhere true q n = marked-elsewhere q n
  mark-if-elsewhere false q n = refl

  -- where the place was left, the test decides
  pub mark-if-at-place : (b : Bool) → p < 64 → is_marked row p ≡ false → is_marked (mark_if row p b) p ≡ b
  mark-if-at-place true h u = marked-at-place h
  mark-if-at-place false h u = u

-- ---- the row of a test

module _ (P : ℕ → Bool) where
  tests-length : (k n : ℕ) → length (tests P k n) ≡ n
  unfolding tests
  tests-length k zero = refl
  tests-length k (suc n) = ap suc (tests-length (k + 1) n)

  tests-at : (k n p : ℕ) → p < n → get_or (tests P k n) p false ≡ P (k + p)
  unfolding tests
  tests-at k zero p h = absurd (omega arith)
  tests-at k (suc n) zero h = ap P (sym (add-zero k))
  tests-at k (suc n) (suc p) h =
      let e : k + 1 + p ≡ k + suc p = omega arith in
      tests-at (k + 1) n p (omega arith) ∙ rw e

  pub row-where-fits : Fits w64 (row_where P)
  unfolding row_where
  row-where-fits = row_fits (tests P 0 64) (tests-length 0 64)

  pub row-where-at : (p : ℕ) → p < 64 → is_marked (row_where P) p ≡ P p
  unfolding row_where
  row-where-at p h =
      let z : 0 + p ≡ p = omega arith in
      ap (λ (l : List Bool). get_or l p false) (marks-of-row (tests P 0 64) (tests-length 0 64)) ∙ tests-at 0 64 p h ∙ ap P z

  -- the only row of the test
  pub row-where-only : (row : ℕ) → Fits w64 row → ((p : ℕ) → p < 64 → is_marked row p ≡ P p) → row ≡ row_where P
  row-where-only row f h = same-marks-same-row row (row_where P) f row-where-fits (λ p l. h p l ∙ sym (row-where-at p l))

-- ---- the row past a list's end

pub past-end-fits : (len : ℕ) → Fits w64 (past_end len)
unfolding past_end
past-end-fits len = row-where-fits (leb len)

pub past-end-at : (len p : ℕ) → p < 64 → is_marked (past_end len) p ≡ leb len p
unfolding past_end
past-end-at len p h = row-where-at (leb len) p h

pub turned-fits : (row : ℕ) → Fits w64 (turned row)
unfolding turned
turned-fits row = row-where-fits (λ p. not (is_marked row p))

pub turned-at : (row p : ℕ) → p < 64 → is_marked (turned row) p ≡ not (is_marked row p)
unfolding turned
turned-at row p l = row-where-at (λ p. not (is_marked row p)) p l
