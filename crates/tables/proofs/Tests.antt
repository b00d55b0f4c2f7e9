-- Laws of tests, and of one value after another. Assumes nothing.
use Prim.Native.Nat.{ℕ, ◌≤◌, ◌<◌}
use mathlib.Core.Path.{◌≡◌, refl, sym, ◌∙◌, subst}
use mathlib.Core.Logic.{◌⊎◌, inl, inr}
use mathlib.Core.Bool.{Bool, true, false, false≢true}
use mathlib.Core.Option.{Option, none, some}
use lib.Dec.{leb, eqb}
use Rattle.std.specs.Prelude.{Option as Answer, Some, None, is_some as answers-some, IsSome, not}
use Rattle.std.proofs.Common.{rules}
use borrow.Author.Tests.{leb-true, leb-false, le-leb, eq-eqb, ne_eqb, eqb-true, eqb-false}
use Rattle.meaning.specs.Numbers.{In}
use Rattle.meaning.proofs.Booleans.{true-or-false, and_intro, and_left, and_right, none-some}
use Rattle.tables.specs.Cells.{missing_cell, CellGives}
use Rattle.tables.specs.Decode.{next, when, within}

-- ---- tests

pub in_within : (hi v : ℕ) → In hi v → within hi v ≡ true
unfolding within
in_within hi v b = and_intro (le-leb _ _ b.low) (le-leb _ _ b.high)

pub within_in : (hi v : ℕ) → within hi v ≡ true → In hi v
unfolding within
within_in hi v t = record { low = leb-true _ _ (and_left _ _ t); high = leb-true _ _ (and_right (leb 1 v) _ t) }

pub past : (hi v : ℕ) → 1 ≤ v → within hi v ≡ false → hi < v
past hi v k f = leb-false v hi (go (true-or-false (leb v hi)))
  where
    go : (leb v hi ≡ true) ⊎ (leb v hi ≡ false) → leb v hi ≡ false
    go (inl t) = absurd (false≢true (sym f ∙ in_within hi v (record { low = k; high = leb-true v hi t })))
    go (inr n) = n

-- ---- what a cell gives

-- `is_none` answers whether the cell is the one of nothing received
pub cell-none : (v : ℕ) (r : Answer ℕ) (b : Bool) → CellGives v r → answers-some r ≡ not b → b ≡ eqb v missing_cell
cell-none v (Some w) true k e = absurd (false≢true (sym e))
cell-none v (Some w) false k e = sym (ne_eqb v missing_cell k.1)
cell-none v None true k e = sym (eq-eqb v missing_cell k)
cell-none v None false k e = absurd (false≢true e)

pub cell-missing : (v : ℕ) (r : Answer ℕ) (b : Bool) → CellGives v r → answers-some r ≡ not b → b ≡ true → v ≡ missing_cell
cell-missing v r b k e t = eqb-true v missing_cell (sym (cell-none v r b k e) ∙ t)

pub cell-given : (v : ℕ) (r : Answer ℕ) (b : Bool) → CellGives v r → answers-some r ≡ not b → b ≡ false → v ≡ missing_cell → ⊥
cell-given v r b k e f = eqb-false v missing_cell (sym (cell-none v r b k e) ∙ f)

pub cell-some : (v : ℕ) (r : Answer ℕ) → CellGives v r → (v ≡ missing_cell → ⊥) → IsSome r
cell-some v (Some w) k g = search rules
cell-some v None k g = absurd (g k)

pub cell-value : (v w : ℕ) (r : Answer ℕ) → CellGives v r → r ≡ Some w → w ≡ v
cell-value v w r k e = (subst (CellGives v) e k).0

-- ---- one value after another

pub record Went {A B : Type 0} (o : Option A) (k : A → Option B) (b : B) : Type 0 where
  pub value : A
  pub here : o ≡ some value
  pub on : k value ≡ some b

pub went : {A B : Type 0} (o : Option A) (k : A → Option B) {b : B} → next o k ≡ some b → Went o k b
unfolding next
went none k h = none-some h
went (some a) k h = record { value = a; here = refl; on = h }

pub goes : {A B : Type 0} (o : Option A) (k : A → Option B) (a : A) → o ≡ some a → next o k ≡ k a
unfolding next
goes o k a h = rw h

pub when-back : {A : Type 0} (b : Bool) (o : Option A) {a : A} → when b o ≡ some a → (b ≡ true) × (o ≡ some a)
unfolding when
when-back true o h = (refl, h)
when-back false o h = none-some h

pub when-goes : {A : Type 0} (b : Bool) (o : Option A) → b ≡ true → when b o ≡ o
unfolding when
when-goes b o h = rw h

pub when-stops : {A : Type 0} (b : Bool) (o : Option A) → b ≡ false → when b o ≡ none
unfolding when
when-stops b o h = rw h
