-- Past the range the mark alone decides.
use mathlib.Core.Path.{sym, ◌∙◌}
use Rattle.std.proofs.Common.{arith}
use Rattle.std.proofs.lemmas.Bool.Decides.{nat_tests}
use Rattle.meaning.specs.Numbers.{◌&◌}
use Rattle.tables.proofs.Tests.{within_in}
use Rattle.tables.proofs.fresh.Goals as goal

pub bounds-marks-x : goal.bounds-marks-x
bounds-marks-x c = let b = within_in c.args.hi c.args.x (sym c.in_range.ensures ∙ c.if-in_range.true) in omega (arith, b.high)

pub returns-then-in_range : goal.returns-then-in_range
unfolding ◌&◌
returns-then-in_range c = grind (arith, nat_tests)

pub returns-else-in_range : goal.returns-else-in_range
unfolding ◌&◌
returns-else-in_range c = grind (arith, nat_tests)
