-- Two tests, the second tried only where the first passes. Assumes nothing.
use mathlib.Core.Path.{◌∙◌, sym}
use Rattle.checker.proofs.Ways.{and-stops, and-goes}
use Rattle.checker.proofs.held_elsewhere.Goals as goal

pub returns-then-marks_depot : goal.returns-then-marks_depot
returns-then-marks_depot c = and-goes _ (sym c.if-marks_depot.ensures)

pub returns-else-marks_depot : goal.returns-else-marks_depot
returns-else-marks_depot c = c.if-marks_depot.false ∙ and-stops _ (sym c.if-marks_depot.ensures)
