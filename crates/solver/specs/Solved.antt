-- What the solver leaves behind: the record in the cells, the rows, the ending, the table.
-- Assumes nothing.
use Rattle.std.specs.Prelude.{ℕ, suc, ◌≤◌, ◌≡◌, List, [], length, get_or}
use Rattle.std.proofs.Math.Option.{Option, none, some}
use Rattle.solver.specs.Ends.{struck_in, left_by, Kept}
use Rattle.meaning.specs.Placement.{Order}
use Rattle.meaning.specs.Market.{standing}
use Rattle.meaning.specs.Strikes.{nothing, struck, mutual_pairs}
use Rattle.meaning.specs.Endings.{Outcome, first_broken, room_from}
use Rattle.meaning.specs.Solver.{sweeps_by, visit, WholeRuling, ending_of, head_of}
use Rattle.tables.specs.Cells.{laid}
use Rattle.rulings.specs.Held.{table_after}
use Rattle.ranks.specs.View.{n_of, m_of, wishes_of, market_of}
use Rattle.reasons.specs.Orders.{orders_in}
use Rattle.strikes.specs.Cells.{strikes_in}
use Rattle.meaning.specs.declared.Strike.{Strike}
use Rattle.meaning.specs.declared.Ending.{Ending}
use Rattle.meaning.specs.declared.Ruling.{Ruling}

-- the orders of a table of orders, in file order
abbrev pub orders_all : List ℕ → List Order
orders_all o = orders_in o (get_or o 0 0)

-- the strikes that the sweeps make
abbrev pub strikes_for : List ℕ → List ℕ → List ℕ → List Strike
strikes_for h e o =
    sweeps_by (visit (market_of h e) (standing (orders_all o)) nothing) length (wishes_of h e) (n_of h) (suc (mutual_pairs (market_of h e))) []

-- the cells' front is the record of all sweeps, and the rows are what it makes of the lists
pub record AllStruck (h e o rows cells : List ℕ) (used : ℕ) : Type 0 where
  pub kept : Kept h e rows
  pub few : used ≤ 4096
  pub strikes : strikes_in cells used ≡ strikes_for h e o
  pub struck_is : struck_in h e rows ≡ struck nothing (strikes_for h e o)

-- the ending that the searches give: a broken hold, else a pair of kind 2, else placed
unfoldable pub ending_by : Option Order → Option Outcome → Ending
ending_by (some x) rest = Ending.NoneHeld x.trainee x.depot
ending_by none (some e) = ending_of e
ending_by none none = Ending.Placed

unfoldable pub ending_in : List ℕ → List ℕ → List ℕ → List ℕ → Ending
ending_in h e o rows =
    ending_by (first_broken (market_of h e) (struck_in h e rows) (orders_all o))
    (room_from (market_of h e) (struck_in h e rows) (left_by h e rows) (m_of h) 1)

-- the table after an ending, where l is the left table
unfoldable pub table_by : Ending → List ℕ → List ℕ → List ℕ
table_by Ending.Placed l t = laid l t
table_by (Ending.NoneHeld i j) l t = t
table_by (Ending.NoneRoom i j) l t = t

-- the ruling, the record and the table are those of w
pub record SolvedAs (w : WholeRuling) (old table cells : List ℕ) (r : Ruling) : Type 0 where
  pub head : r ≡ head_of w
  pub strikes : strikes_in cells (length w.strikes) ≡ w.strikes
  pub table_is : table ≡ table_after w.outcome old
