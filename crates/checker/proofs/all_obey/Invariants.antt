-- After k turns trainees 1 to k obey their rows. Assumes nothing.
use lib.ListN.{get_or}
use Rattle.meaning.specs.Endings.{table_of}
use Rattle.checker.specs.Ends.{obeys_rows}
use Rattle.checker.proofs.Loops.{Passed}
use Rattle.checker.proofs.all_obey.Given as goal

abbrev pub invariant-loop-k : goal.invariant-loop-k
invariant-loop-k l = Passed (λ i. obeys_rows (get_or l.standing.holds.now i 0) (get_or l.standing.bars.now i 0) (table_of l.cells i)) l.k
