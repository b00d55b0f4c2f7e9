-- The first k strikes of the cells are laid over the others as those were. Assumes nothing.
use Rattle.std.proofs.Common.{◌≡◌}
use Rattle.strikes.specs.Cells.{strikes_in, flat}
use Rattle.strikes.proofs.lay_strikes.Given as goal

abbrev pub invariant-loop-k : goal.invariant-loop-k
invariant-loop-k l = l.out ≡ flat (strikes_in l.cells l.count) l.initial.out l.k
