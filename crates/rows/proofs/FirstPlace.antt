-- The first place left, told by the marks: what reasons 3 and 4 read off a row. Assumes nothing.
use Prim.Native.Nat.{ℕ, zero, suc, ◌≤◌, ◌<◌}
use mathlib.Core.Path.{◌≡◌, refl, sym, ◌∙◌, subst}
use mathlib.Core.Logic.{◌↔◌}
use mathlib.Core.Bool.{Bool, true, false, false≢true}
use mathlib.Core.List.{List, [], ◌∷◌}
use native.Mathlib.Omega.{arith}
use native.Mathlib.Nat.{le_antisymm}
use borrow.Author.Tests.{leb-true, leb-false}
use lib.Dec.{leb}
use lib.ListN.{length, get_or}
use Rattle.rows.specs.Marks.{marks, is_marked, with_mark}
use Rattle.rows.specs.Left.{first_without, first_place_left}
use Rattle.rows.proofs.Marking.{marks-length, marked-still}

without-at-most : (bs : List Bool) → first_without bs ≤ length bs
unfolding first_without
without-at-most [] = omega arith
without-at-most (true ∷ bs) = omega (arith, without-at-most bs)
without-at-most (false ∷ bs) = omega arith

before-without : (bs : List Bool) (p : ℕ) → p < first_without bs → get_or bs p false ≡ true
unfolding first_without
before-without [] p h = absurd (omega arith)
before-without (true ∷ bs) zero h = refl
before-without (true ∷ bs) (suc p) h = before-without bs p (omega arith)
before-without (false ∷ bs) p h = absurd (omega arith)

at-without : (bs : List Bool) → get_or bs (first_without bs) false ≡ false
unfolding first_without
at-without [] = refl
at-without (true ∷ bs) = at-without bs
at-without (false ∷ bs) = refl

module _ (row : ℕ) where
  pub first-at-most : first_place_left row ≤ 64
  unfolding first_place_left
  first-at-most = omega (arith, without-at-most (marks row), marks-length row)

  pub before-first-marked : (p : ℕ) → p < first_place_left row → is_marked row p ≡ true
  unfolding first_place_left
  before-first-marked p h = before-without (marks row) p h

  pub first-unmarked : is_marked row (first_place_left row) ≡ false
  unfolding first_place_left
  first-unmarked = at-without (marks row)

  -- every place before p is marked exactly if p is at most the first left
  pub all-before : (p : ℕ) → ((q : ℕ) → q < p → is_marked row q ≡ true) ↔ (p ≤ first_place_left row)
  all-before p = (λ h. go h (leb p (first_place_left row)) refl, λ l q k. before-first-marked q (omega arith))
    where
      go : ((q : ℕ) → q < p → is_marked row q ≡ true) → (b : Bool) → leb p (first_place_left row) ≡ b → p ≤ first_place_left row
      go h true e = leb-true p (first_place_left row) e
      go h false e = absurd (false≢true (sym first-unmarked ∙ h (first_place_left row) (leb-false p (first_place_left row) e)))

  -- every place down to and including p is marked exactly if p is before the first left
  pub all-down-to : (p : ℕ) → ((q : ℕ) → q ≤ p → is_marked row q ≡ true) ↔ (p < first_place_left row)
  all-down-to p = (
    λ h. let l : suc p ≤ first_place_left row = (all-before (suc p)).0 (λ q k. h q (omega arith)) in omega arith,
    λ l q k. before-first-marked q (omega arith),
  )

  -- p is the first left exactly if it isn't marked and all before it are
  pub first-exactly : (p : ℕ) → (first_place_left row ≡ p) ↔ ((is_marked row p ≡ false) × ((q : ℕ) → q < p → is_marked row q ≡ true))
  first-exactly p = (
    λ e. subst (λ (x : ℕ). (is_marked row x ≡ false) × ((q : ℕ) → q < x → is_marked row q ≡ true)) e (first-unmarked, before-first-marked),
    λ h. go h (leb (first_place_left row) p) refl,
  )
    where
      go : (is_marked row p ≡ false) × ((q : ℕ) → q < p → is_marked row q ≡ true) → (b : Bool) → leb (first_place_left row) p ≡ b → first_place_left row ≡ p
      go h true e = le_antisymm (leb-true (first_place_left row) p e) ((all-before p).0 h.1)
      go h false e = absurd (false≢true (sym h.0 ∙ before-first-marked p (leb-false (first_place_left row) p e)))

-- where no mark is lost, the first place left doesn't fall
pub first-never-falls : (x y : ℕ) → ((q : ℕ) → is_marked x q ≡ true → is_marked y q ≡ true) → first_place_left x ≤ first_place_left y
first-never-falls x y h = (all-before y (first_place_left x)).0 (λ q l. h q (before-first-marked x q l))

pub mark-never-lowers-first : (row p : ℕ) → first_place_left row ≤ first_place_left (with_mark row p)
mark-never-lowers-first row p = first-never-falls row (with_mark row p) (marked-still row p)
