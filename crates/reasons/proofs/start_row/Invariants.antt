-- The places passed so far are marked where the depot there is a stranger; the rest is the row past the end.
use lib.ListN.{length}
use Rattle.rows.specs.Marks.{past_end}
use Rattle.rows.proofs.Filling.{Filled}
use Rattle.reasons.specs.Rows.{shut_at}
use Rattle.reasons.proofs.start_row.Given as goal

abbrev pub invariant-loop-p : goal.invariant-loop-p
invariant-loop-p l = Filled (shut_at l.market.heads.now l.market.entries.now l.i) (past_end (length l.wishes)) l.p l.row
