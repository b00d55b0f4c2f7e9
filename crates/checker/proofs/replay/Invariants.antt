-- After k turns the rows hold the first k strikes, and the answer comes from what follows. Assumes nothing.
use Rattle.checker.specs.Turns.{Going}
use Rattle.checker.proofs.replay.Given as goal

abbrev pub invariant-loop-k : goal.invariant-loop-k
invariant-loop-k l = Going l.standing.market.heads.now l.standing.market.entries.now l.standing.holds.now l.standing.bars.now l.cells l.count l.k l.marks
