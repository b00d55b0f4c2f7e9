-- The cells that the rows lay are those of the left table.
use Rattle.solver.proofs.Searches.{laid-all}
use Rattle.solver.proofs.Left.fill_left.Goals as goal

pub returns : goal.returns
returns c = let k = c.args.self.now.kept in laid-all _ _ _ _ _ k.tables k.rows_hold c.requires c.lay_left.ensures
