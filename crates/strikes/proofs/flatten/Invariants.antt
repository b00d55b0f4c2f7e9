-- After k turns the cells begin with those of k strikes.
use Rattle.std.proofs.Common.{◌≡◌}
use Rattle.strikes.specs.Cells.{flat}
use Rattle.strikes.proofs.flatten.Given as goal

abbrev pub invariant-loop-k : goal.invariant-loop-k
invariant-loop-k l = l.cells ≡ flat l.log l.initial.cells l.k
