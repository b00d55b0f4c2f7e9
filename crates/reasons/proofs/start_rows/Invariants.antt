-- The rows of the trainees passed so far are start rows.
use Rattle.reasons.proofs.Starting.{StartedBelow}
use Rattle.reasons.proofs.start_rows.Given as goal

abbrev pub invariant-loop-i : goal.invariant-loop-i
invariant-loop-i l = StartedBelow l.market.heads.now l.market.entries.now l.i l.rows
