-- The checker's answer to a ruling in plain cells, on what full tables mean.
-- Assumes nothing.
use Rattle.std.specs.Prelude.{ℕ, ◌*◌, ◌≤◌, ◌≡◌, true, List, [], length, get_or, Result}
use Rattle.std.proofs.Math.Option.{some}
use Rattle.meaning.specs.Placement.{Order, Placement}
use Rattle.meaning.specs.Full.{Full, whole, full}
use Rattle.meaning.specs.Market.{standing}
use Rattle.meaning.specs.Checker.{check_from}
use Rattle.meaning.specs.declared.Ruling.{Ruling}
use Rattle.meaning.specs.declared.Rejection.{Rejection}
use Rattle.tables.specs.Answers.{sized}
use Rattle.tables.specs.Decode.{placement_of}
use Rattle.ranks.specs.View.{n_of, wishes_of, market_of}
use Rattle.reasons.specs.Rows.{standing_of}
use Rattle.reasons.specs.Orders.{orders_in}
use Rattle.strikes.specs.Cells.{strikes_in}
use Rattle.rulings.specs.Held.{outcome_in}
use Rattle.checker.specs.Turns.{TraineesIn, answer_from}
use Rattle.checker.specs.Ends.{NamesTrainee}

-- a ruling of as many trainees as the tables', with cells for each strike and each trainee, that names trainees of 1 to n
pub record RulingCells (h : List ℕ) (r : Ruling) (table cells : List ℕ) : Type 0 where
  pub trainees : r.trainees ≡ n_of h
  pub few_strikes : r.strikes ≤ 4096
  pub strike_cells_fit : 4 * r.strikes ≤ length cells
  pub table_cells_fit : n_of h ≤ length table
  pub strike_trainees : TraineesIn (n_of h) cells r.strikes
  pub ending_trainee : NamesTrainee (n_of h) r.ending

-- the tables have their full sizes, and hold a placement in which everything was received
pub record FullPlacement (h e o : List ℕ) : Type 0 where
  pub placement : Placement
  pub its_full : Full
  pub long : sized h e o ≡ true
  pub held : placement_of h e o ≡ some placement
  pub received : full placement ≡ whole its_full

-- all orders of a table
abbrev pub orders_of_table : List ℕ → List Order
orders_of_table o = orders_in o (get_or o 0 0)

-- the meaning's answer on what the tables mean; that this is its answer for the placement that they hold is proved
unfoldable pub check_in : List ℕ → List ℕ → List ℕ → Ruling → List ℕ → List ℕ → Result (Unit {0}) Rejection
check_in h e o r table cells =
    check_from (market_of h e) (wishes_of h e) (standing (orders_of_table o)) (orders_of_table o) (outcome_in (n_of h) r.ending table) [] (strikes_in cells r.strikes) 1

-- the answer for all orders that the order rows stand for
abbrev pub CheckSays : List ℕ → List ℕ → List ℕ → List ℕ → Ruling → List ℕ → List ℕ → Result (Unit {0}) Rejection → Type 0
CheckSays h e holds bars r table cells c =
    (os : List Order) → standing_of h holds bars ≡ standing os → c ≡ answer_from h e holds bars os (outcome_in (n_of h) r.ending table) [] (strikes_in cells r.strikes) 1
