-- The solver's state between two visits. Assumes nothing.
use Rattle.std.specs.Prelude.{ℕ, ◌*◌, ◌≤◌, ◌<◌, ◌≡◌, List, length}
use Rattle.meaning.specs.Strikes.{nothing, struck, mutual_pairs}
use Rattle.meaning.specs.Solver.{LowestRecord, visit}
use Rattle.ranks.specs.View.{n_of, wishes_of, market_of, FullTables}
use Rattle.reasons.specs.Rows.{RowsHold, standing_of, OrderRows}
use Rattle.strikes.specs.Cells.{strikes_in}
use Rattle.reasons.specs.declared.Standing.{Standing}
use Rattle.meaning.specs.declared.Strike.{Strike}

-- the cells' front is a record made by the lowest reasons, with room for every mutual pair, and the rows are what it makes of the lists
pub record Going (h e holds bars rows cells : List ℕ) (used : ℕ) : Type 0 where
  pub tables : FullTables h e
  pub orders : OrderRows h holds bars
  pub rows_long : n_of h < length rows
  pub cells_long : 4 * mutual_pairs (market_of h e) ≤ length cells
  pub rows_hold : RowsHold (market_of h e) (wishes_of h e) (struck nothing (strikes_in cells used)) rows
  pub lowest : LowestRecord (market_of h e) (standing_of h holds bars) nothing (strikes_in cells used)

-- the state stands at the record rec
pub record Came (h e holds bars rows cells : List ℕ) (used : ℕ) (rec : List Strike) : Type 0 where
  pub going : Going h e holds bars rows cells used
  pub is : strikes_in cells used ≡ rec

-- what the solver does at a place
abbrev pub visit_of : List ℕ → List ℕ → List ℕ → List ℕ → ℕ → ℕ → List Strike → List Strike
visit_of h e holds bars = visit (market_of h e) (standing_of h holds bars) nothing

-- ---- the same of a market with the rows of its orders

abbrev pub GoingOn : Standing → List ℕ → List ℕ → ℕ → Type 0
GoingOn s = Going s.market.heads.now s.market.entries.now s.holds.now s.bars.now

abbrev pub CameTo : Standing → List ℕ → List ℕ → ℕ → List Strike → Type 0
CameTo s = Came s.market.heads.now s.market.entries.now s.holds.now s.bars.now

abbrev pub visit_by : Standing → ℕ → ℕ → List Strike → List Strike
visit_by s = visit_of s.market.heads.now s.market.entries.now s.holds.now s.bars.now
