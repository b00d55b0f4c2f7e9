-- A barred order breaks nothing; a held one does if its pair isn't open by the rows.
use Rattle.solver.proofs.Searches.{not-a-hold, a-hold}
use Rattle.solver.proofs.Left.breaks.Goals as goal

pub returns-then-is_hold : goal.returns-then-is_hold
returns-then-is_hold c =
    let s = c.args.self.now in
    a-hold _ _ s.orders.cells.now _ c.args.k _ c.is_hold.ensures c.if-is_hold.true _ _ c.trainee.ensures c.depot.ensures _ c.is_open.ensures s.kept.tables s.kept.rows_hold (rw c.trainee.ensures (s.orders.full.trainee c.args.k c.requires))

pub returns-else-is_hold : goal.returns-else-is_hold
returns-else-is_hold c = not-a-hold _ _ c.args.self.now.orders.cells.now _ c.args.k _ c.is_hold.ensures c.if-is_hold.false
