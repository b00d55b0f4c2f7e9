-- The sweeps' state, as the code keeps it. Assumes nothing.
use Rattle.std.specs.Prelude.{◌≡◌, ℕ, true, false, List, get_or}
use Rattle.std.proofs.Math.Option.{Option, none}
use Rattle.meaning.specs.declared.Reason.{Reason}
use Rattle.rows.specs.Marks.{is_marked}
use Rattle.ranks.specs.View.{wishes_of}
use Rattle.reasons.specs.Reasons.{choice_in}
use Rattle.meaning.specs.declared.Strike.{Strike}
use Rattle.strikes.specs.Cells.{strikes_in}
use Rattle.solver.specs.Going.{GoingOn, CameTo}
use Rattle.solver.specs.declared.Sweeps.{Sweeps}

abbrev pub Sweeping : Sweeps → Type 0
Sweeping s = GoingOn s.standing.now s.rows.now s.cells.now s.used

-- the record so far
abbrev pub record_of : Sweeps → List Strike
record_of s = strikes_in s.cells.now s.used

-- the states s and t hold the same standing, rows and cells, whatever rows and cells keep
pub record Same (s t : Sweeps) : Type 0 where
  pub standing : t.standing ≡ s.standing
  pub rows : t.rows.ghost_name ≡ s.rows.ghost_name
  pub cells : t.cells.ghost_name ≡ s.cells.ghost_name

-- the state t comes after s, at the record rec
pub record SweptTo (s t : Sweeps) (rec : List Strike) : Type 0 where
  pub same : Same s t
  pub came : CameTo s.standing.now t.rows.now t.cells.now t.used rec

-- the lowest reason for the pair at place p of i's list; none where the place is marked
unfoldable pub reason_in : List ℕ → List ℕ → List ℕ → List ℕ → List ℕ → ℕ → ℕ → Option Reason
reason_in h e holds bars rows i p = elim (is_marked (get_or rows i 0) p) [ true ↦ none | false ↦ choice_in h e holds bars rows i (get_or (wishes_of h e i) p 0) ]

abbrev pub reason_at : Sweeps → ℕ → ℕ → Option Reason
reason_at s = reason_in s.standing.now.market.heads.now s.standing.now.market.entries.now s.standing.now.holds.now s.standing.now.bars.now s.rows.now
