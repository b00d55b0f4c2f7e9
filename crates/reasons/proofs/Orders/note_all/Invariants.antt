-- After k orders the rows keep the first k.
use Rattle.reasons.specs.Orders.{Noted}
use Rattle.reasons.proofs.Orders.note_all.Given as goal

abbrev pub invariant-loop-k : goal.invariant-loop-k
invariant-loop-k l = Noted l.self.market.heads.now l.self.cells.now l.k l.holds l.bars
