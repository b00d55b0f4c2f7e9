-- After k turns the cells of trainees 1 to k are laid.
use Rattle.reasons.specs.Left.{LaidTo}
use Rattle.reasons.proofs.Rows.lay_left.Given as goal

abbrev pub invariant-loop-k : goal.invariant-loop-k
invariant-loop-k l = LaidTo l.self.market.heads.now l.self.market.entries.now l.self.marks.now l.initial.table l.k l.table
