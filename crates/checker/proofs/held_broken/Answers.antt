-- Two tests, the second tried only where the first passes. Assumes nothing.
use mathlib.Core.Path.{◌∙◌}
use Rattle.checker.proofs.Loops.{broken-not, broken-by}
use Rattle.checker.proofs.held_broken.Goals as goal

pub returns-then-marks_depot : goal.returns-then-marks_depot
returns-then-marks_depot c = broken-by _ _ _ _ _ _ _ c.depots.ensures c.if-marks_depot.ensures _ c.is_open.ensures

pub returns-else-marks_depot : goal.returns-else-marks_depot
returns-else-marks_depot c = c.if-marks_depot.false ∙ broken-not _ _ _ _ _ _ _ c.depots.ensures c.if-marks_depot.ensures
