-- By the ending: only placed lays the left table.
use Rattle.solver.proofs.Whole.{lays-placed, lays-none}
use Rattle.solver.proofs.Left.lay_table.Goals as goal

pub returns-in-Placed : goal.returns-in-Placed
returns-in-Placed c = lays-placed _ _ c.in-Placed.is c.fill_left.ensures

pub returns-in_default : goal.returns-in_default
returns-in_default c = lays-none _ _ c.args.table.now c.in_default.not-Placed
