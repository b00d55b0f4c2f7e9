-- The kind's cell decides which rows are marked; the other rows stay.
use Rattle.reasons.proofs.Noting.{noted-held, noted-barred}
use Rattle.reasons.proofs.Orders.note.Goals as goal

pub returns-then-is_hold : goal.returns-then-is_hold
returns-then-is_hold c = noted-held c.args.self.now.cells.now c.args.holds.now c.args.bars.now c.args.k _ _ c.trainee-i.ensures c.depot-j.ensures _ c.is_hold.ensures c.if-is_hold.true c.mark_pair.ensures

pub returns-else-is_hold : goal.returns-else-is_hold
returns-else-is_hold c = noted-barred c.args.self.now.cells.now c.args.holds.now c.args.bars.now c.args.k _ _ c.trainee-i.ensures c.depot-j.ensures _ c.is_hold.ensures c.if-is_hold.false c.mark_pair-else-is_hold.ensures
