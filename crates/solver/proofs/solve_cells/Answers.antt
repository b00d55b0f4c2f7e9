-- All strikes, then the ending, then the table: together they are the definition's ruling.
use Rattle.solver.proofs.Whole.{solved-as}
use Rattle.tables.proofs.Views.{tables-seen}
use Rattle.solver.proofs.solve_cells.Goals as goal

pub returns : goal.returns
returns c = λ p F k w ruling q. solved-as _ _ _ _ _ _ F p.orders (tables-seen _ _ _ p F k w) c.strike_all-strikes.ensures ruling q _ _ _ _ c.trainees.ensures c.ending_of-ending.ensures c.lay_table.ensures
