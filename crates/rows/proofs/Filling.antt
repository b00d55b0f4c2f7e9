-- A row filled from the front, place by place, by a test: the invariant of the loop that makes a list's first row. Assumes nothing.
use Prim.Native.Nat.{ℕ, ◌+◌, ◌<◌, ◌≤◌}
use mathlib.Core.Path.{◌≡◌, refl, ◌∙◌}
use mathlib.Core.Bool.{Bool, true, false}
use native.Mathlib.Omega.{arith}
use borrow.Author.Tests.{eqb-true, eqb-false, ltb-true, ltb-false}
use lib.Dec.{eqb, ltb}
use mir.Syntax.{w64}
use mir.Val.{Fits}
use Rattle.rows.specs.Marks.{is_marked, mark_if, row_where}
use Rattle.rows.proofs.Marking.{mark-if-fits, mark-if-at-place, mark-if-elsewhere, row-where-only}

-- below k the row has the test's marks, from k on those that it began with
pub record Filled (P : ℕ → Bool) (began k row : ℕ) : Type 0 where
  pub fits-row : Fits w64 row
  pub below : (p : ℕ) → p < k → is_marked row p ≡ P p
  pub beyond : (p : ℕ) → k ≤ p → is_marked row p ≡ is_marked began p

module _ (P : ℕ → Bool) (began : ℕ) where
  pub filled_none : Fits w64 began → Filled P began 0 began
  filled_none f = record { fits-row = f; below = λ p l. absurd (omega arith); beyond = λ p l. refl }

  pub filled_more : (k row : ℕ) → k < 64 → is_marked began k ≡ false → Filled P began k row → Filled P began (k + 1) (mark_if row k (P k))
  filled_more k row h u inv = record {
    fits-row = mark-if-fits row k (P k) inv.fits-row;
    below = λ p l. at p l (eqb p k) refl;
    beyond = λ p l. mark-if-elsewhere row k (P k) p (λ e. omega arith) ∙ inv.beyond p (omega arith);
  }
    where
      at : (p : ℕ) → p < k + 1 → (b : Bool) → eqb p k ≡ b → is_marked (mark_if row k (P k)) p ≡ P p
      at p l true e = rw (eqb-true p k e) (mark-if-at-place row k (P k) h (inv.beyond k (omega arith) ∙ u))
      at p l false e =
          let n = eqb-false p k e in
          mark-if-elsewhere row k (P k) p n ∙ inv.below p (omega arith)

  -- where the row began with the test's marks from k on, it is the test's row
  pub filled-all : (k row : ℕ) → ((p : ℕ) → k ≤ p → p < 64 → is_marked began p ≡ P p) → Filled P began k row → row ≡ row_where P
  filled-all k row rest inv = row-where-only P row inv.fits-row (λ p l. at p l (ltb p k) refl)
    where
      at : (p : ℕ) → p < 64 → (b : Bool) → ltb p k ≡ b → is_marked row p ≡ P p
      at p l true e = inv.below p (ltb-true p k e)
      at p l false e = inv.beyond p (ltb-false p k e) ∙ rest p (ltb-false p k e) l
