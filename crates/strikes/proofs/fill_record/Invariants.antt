-- After k turns the record is filled with k strikes.
use Rattle.std.proofs.Common.{◌≡◌}
use Rattle.strikes.specs.Cells.{filled}
use Rattle.strikes.proofs.fill_record.Given as goal

abbrev pub invariant-loop-k : goal.invariant-loop-k
invariant-loop-k l = l.log ≡ filled l.cells l.initial.log l.k
