-- The loops over places, trainees and sweeps, one turn at a time. Assumes nothing.
use Prim.Native.Nat.{ℕ, zero, suc, ◌+◌, ◌-◌, ◌≤◌, ◌<◌}
use mathlib.Core.Path.{◌≡◌, refl, sym, ap, ◌∙◌}
use mathlib.Core.Bool.{true, false}
use mathlib.Core.List.{List, []}
use native.Mathlib.Omega.{arith}
use native.Mathlib.Numerals.{add-one}
use lib.ListN.{drop_of_length-le, length, get_or, drop}
use lib.Seq.{drop-cons}
use lib.Dec.{eqb}
use borrow.Author.Tests.{eq-eqb, ne_eqb}
use Rattle.solver.specs.Going.{Going, Came, visit_of}
use Rattle.solver.proofs.Lawful.{lawful-tables, listed-tables, nothing-mutual}
use Rattle.meaning.specs.Market.{Lawful}
use Rattle.meaning.specs.Strikes.{nothing, mutual_pairs}
use Rattle.meaning.specs.Solver.{row_by, rows_by, sweeps_by, LowestRecord}
use Rattle.meaning.proofs.Solver.{bound, sweep-grows, sweep-same}
use Rattle.ranks.specs.View.{n_of, wishes_of, market_of}
use Rattle.reasons.specs.Rows.{standing_of}
use Rattle.strikes.specs.Cells.{strikes_in}
use Rattle.strikes.proofs.Encoding.{count-strikes}
use Rattle.meaning.specs.declared.Strike.{Strike}

module _ {A : Type 0} (visit : ℕ → ℕ → A → A) (i : ℕ) (l : List ℕ) (p : ℕ) (a whole_row : A) (inv : whole_row ≡ row_by visit i (drop p l) a) where
  pub row_more : p < length l → (after : A) → after ≡ visit i (get_or l p 0) a → whole_row ≡ row_by visit i (drop (p + 1) l) after
  unfolding row_by
  row_more h after e = inv ∙ rw (add-one, drop-cons l p 0, e)

  pub row_done : length l ≤ p → a ≡ whole_row
  unfolding row_by
  row_done h = sym (inv ∙ rw (drop_of_length-le l h))

module _ {A : Type 0} (visit : ℕ → ℕ → A → A) (lists : ℕ → List ℕ) (n i : ℕ) (a whole-sweep : A) (inv : whole-sweep ≡ rows_by visit lists (n + 1 - i) i a) where
  pub rows_more : i ≤ n → (after : A) → after ≡ row_by visit i (lists i) a → whole-sweep ≡ rows_by visit lists (n + 1 - (i + 1)) (i + 1) after
  unfolding rows_by
  rows_more h after e =
      let d : n + 1 - i ≡ suc (n + 1 - (i + 1)) = omega arith in
      inv ∙ rw (d, e) (ap (λ (x : ℕ). rows_by visit lists (n + 1 - (i + 1)) x (row_by visit i (lists i) a)) (sym (add-one i)))

  pub rows-done : n < i → a ≡ whole-sweep
  unfolding rows_by
  rows-done h = let d : n + 1 - i ≡ 0 = omega arith in sym (inv ∙ rw d)

-- ---- the sweeps

-- the whole is what enough more sweeps make of the record so far
pub data Fuel (h e holds bars : List ℕ) (all-strikes rec : List Strike) : Type 0 where
  fuel : (d : ℕ) → all-strikes ≡ sweeps_by (visit_of h e holds bars) length (wishes_of h e) (n_of h) d rec → mutual_pairs (market_of h e) < length rec + d → Fuel h e holds bars all-strikes rec

abbrev pub swept_by : List ℕ → List ℕ → List ℕ → List ℕ → List Strike → List Strike
swept_by h e holds bars rec = rows_by (visit_of h e holds bars) (wishes_of h e) (n_of h) 1 rec

pub fuel-start : (h e holds bars cells : List ℕ) → Fuel h e holds bars (sweeps_by (visit_of h e holds bars) length (wishes_of h e) (n_of h) (suc (mutual_pairs (market_of h e))) []) (strikes_in cells 0)
unfolding strikes_in
fuel-start h e holds bars cells = fuel (suc (mutual_pairs (market_of h e))) refl (omega arith)

module _ (h e holds bars rows cells : List ℕ) (u : ℕ) (g : Going h e holds bars rows cells u) (rows' cells' : List ℕ) (v : ℕ)
    (came : Came h e holds bars rows' cells' v (swept_by h e holds bars (strikes_in cells u))) where
  lawful : Lawful (market_of h e) (standing_of h holds bars)
  lawful = lawful-tables h e holds bars g.tables

  longer : length (strikes_in cells u) ≤ length (swept_by h e holds bars (strikes_in cells u))
  unfolding market_of
  longer = sweep-grows (market_of h e) (standing_of h holds bars) lawful nothing (nothing-mutual (market_of h e)) (wishes_of h e) (listed-tables h e) (strikes_in cells u) g.lowest

  few : (rec : List Strike) → LowestRecord (market_of h e) (standing_of h holds bars) nothing rec → length rec ≤ mutual_pairs (market_of h e)
  few rec l = bound (market_of h e) (standing_of h holds bars) lawful nothing (nothing-mutual (market_of h e)) (wishes_of h e) (listed-tables h e) rec l

  pub turn-less : (v ≡ u → ⊥) → mutual_pairs (market_of h e) - v < mutual_pairs (market_of h e) - u
  turn-less n = omega (arith, few _ came.going.lowest, longer, ap length came.is, count-strikes cells u, count-strikes cells' v)

  pub turn_more : (v ≡ u → ⊥) → (all-strikes : List Strike) → Fuel h e holds bars all-strikes (strikes_in cells u) → Fuel h e holds bars all-strikes (strikes_in cells' v)
  unfolding sweeps_by
  turn_more n all-strikes (fuel zero q l) = absurd (omega (arith, few _ g.lowest))
  turn_more n all-strikes (fuel (suc d) q l) =
      let m : length (swept_by h e holds bars (strikes_in cells u)) ≡ length (strikes_in cells u) → ⊥ =
      λ x. n (omega (arith, x, ap length came.is, count-strikes cells u, count-strikes cells' v)) in
      let f : eqb (length (swept_by h e holds bars (strikes_in cells u))) (length (strikes_in cells u)) ≡ false = ne_eqb _ _ m in
      fuel d (q ∙ rw (f, sweeps_by, ← came.is)) (omega (arith, l, longer, m, ap length came.is))

  pub turn-done : v ≡ u → (all-strikes : List Strike) → Fuel h e holds bars all-strikes (strikes_in cells u) → strikes_in cells' v ≡ all-strikes
  unfolding sweeps_by market_of
  turn-done z all-strikes (fuel zero q l) = absurd (omega (arith, few _ g.lowest))
  turn-done z all-strikes (fuel (suc d) q l) =
      let s : length (swept_by h e holds bars (strikes_in cells u)) ≡ length (strikes_in cells u) = omega (arith, z, ap length came.is, count-strikes cells u, count-strikes cells' v) in
      let f : eqb (length (swept_by h e holds bars (strikes_in cells u))) (length (strikes_in cells u)) ≡ true = eq-eqb _ _ s in
      came.is
      ∙ sweep-same (market_of h e) (standing_of h holds bars) lawful nothing (nothing-mutual (market_of h e)) (wishes_of h e) (listed-tables h e) (strikes_in cells u) g.lowest s
      ∙ sym (q ∙ rw (f, sweeps_by))
