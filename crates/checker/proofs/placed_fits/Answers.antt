-- The front of the array is the left table. Assumes nothing.
use borrow.Author.Rules.{rules}
use Rattle.checker.proofs.Loops.{placed-left}
use Rattle.checker.proofs.Placements.{left-front}
use Rattle.checker.proofs.placed_fits.Goals as goal

pub returns : goal.returns
returns c =
    let s = c.args.standing.now in
    let f = left-front _ _ c.args.marks.now s.market.full _ c.trainees.ensures _ (search rules) c.left_table-left.ensures in
    placed-left _ _ _ _ _ _ _ _ f.cells_are c.table_fits.ensures
