-- The answer from the replay and the ending.
-- Assumes nothing.

use Prim.Native.Nat.{ℕ, zero, suc, ◌+◌, ◌≤◌, ◌<◌}
use mathlib.Core.Path.{◌≡◌, refl, sym, ap, ◌∙◌}
use mathlib.Core.Bool.{Bool}
use mathlib.Core.List.{List, []}
use native.Mathlib.Omega.{arith}
use lib.ListN.{get_or-replicate, length, get_or, replicate}
use Rattle.checker.specs.Turns.{Going}
use Rattle.checker.specs.Ends.{ends_in, NamesTrainee}
use Rattle.rulings.specs.Held.{outcome_in}
use Rattle.checker.specs.Check.{orders_of_table, check_in, CheckSays}
use Rattle.checker.proofs.Replaying.{going-ends}
use Rattle.checker.proofs.Joined.{ending-same}
use Rattle.meaning.specs.Numbers.{In}
use Rattle.meaning.specs.Lists.{Each, each_none}
use Rattle.meaning.specs.Placement.{LegalOrder}
use Rattle.meaning.specs.Market.{Standing, standing}
use Rattle.meaning.specs.Strikes.{nothing, struck}
use Rattle.meaning.specs.Endings.{outcome_fits}
use Rattle.meaning.specs.Checker.{step_by, check_from}
use Rattle.meaning.proofs.Lists.{each-end}
use Rattle.ranks.specs.View.{n_of, m_of, wishes_of, market_of, FullTables}
use Rattle.reasons.specs.Rows.{standing_of, OrderRows}
use Rattle.reasons.specs.Orders.{order_in, orders_in, FullOrders, Noted}
use Rattle.reasons.proofs.Noting.{noted-none, standing-noted}
use Rattle.strikes.specs.Cells.{strikes_in}
use Rattle.std.specs.Prelude.{Result, Ok}
use Rattle.meaning.specs.declared.Ruling.{Ruling}
use Rattle.meaning.specs.declared.Rejection.{Rejection}

module _ (h e holds bars : List ℕ) (r : Ruling) (table cells : List ℕ) (count : ℕ) (ec : count ≡ r.strikes) (rows : List ℕ) where
  module _ (all-going : Going h e holds bars cells count count rows) where
    -- after the last strike the ending is
    pub check-ends : FullTables h e → OrderRows h holds bars → NamesTrainee (n_of h) r.ending → (b : Bool) → b ≡ ends_in h e holds bars rows r.ending table
        → CheckSays h e holds bars r table cells (step_by (r.strikes + 1) b (Ok tt))
    check-ends ft orders named b eb os stands =
        let S = struck nothing (strikes_in cells count) in
        let f : b ≡ outcome_fits (market_of h e) (wishes_of h e) (standing_of h holds bars) os S (outcome_in (n_of h) r.ending table) =
        eb ∙ ending-same h e ft holds bars orders os stands S rows all-going.rows_hold r.ending table named
        ∙ ap (λ (O : Standing). outcome_fits (market_of h e) (wishes_of h e) O os S (outcome_in (n_of h) r.ending table)) (sym stands) in
        rw (← ec) (sym (going-ends h e holds bars cells count rows all-going os (outcome_in (n_of h) r.ending table) ∙ ap (λ (t : Bool). step_by (count + 1) t (Ok tt)) (sym f)))

-- ---- the orders of a table

orders-fine : (h o : List ℕ) → FullOrders h o → (k : ℕ) → k ≤ get_or o 0 0 → Each (LegalOrder (n_of h) (m_of h)) (orders_in o k)
unfolding orders_in order_in
orders-fine h o fo zero l = each_none
orders-fine h o fo (suc k) l = each-end (orders-fine h o fo k (omega arith)) (record { trainee = fo.trainee k (omega arith); depot = fo.depot k (omega arith) })

pub table-stands : (h o holds bars : List ℕ) → FullOrders h o → Noted h o (get_or o 0 0) holds bars → standing_of h holds bars ≡ standing (orders_of_table o)
table-stands h o holds bars fo noted = standing-noted h o holds bars (orders_of_table o) refl (orders-fine h o fo (get_or o 0 0) (omega arith)) noted

-- the answer for the orders of the table
pub checks-in : (h e o holds bars : List ℕ) (r : Ruling) (table cells : List ℕ) (c : Result (Unit {0}) Rejection) → FullOrders h o → Noted h o (get_or o 0 0) holds bars
    → CheckSays h e holds bars r table cells c → c ≡ check_in h e o r table cells
unfolding check_in
checks-in h e o holds bars r table cells c fo noted says =
    let stands = table-stands h o holds bars fo noted in
    says (orders_of_table o) stands
    ∙ ap (λ (O : Standing). check_from (market_of h e) (wishes_of h e) O (orders_of_table o) (outcome_in (n_of h) r.ending table) [] (strikes_in cells r.strikes) 1) stands

-- ---- arrays of zeros

pub zeros-noted : (h e o : List ℕ) → FullTables h e → Noted h o 0 (replicate 257 0) (replicate 257 0)
zeros-noted h e o ft = noted-none h o (replicate 257 0) (replicate 257 0) long long zero_row zero_row
  where
    long : n_of h < length (replicate {A = ℕ} 257 0)
    long = omega (arith, ft.few_trainees)

    zero_row : (k : ℕ) → In (n_of h) k → get_or (replicate {A = ℕ} 257 0) k 0 ≡ 0
    zero_row k r = get_or-replicate 257 k 0 0 (omega (arith, r.high, ft.few_trainees))
