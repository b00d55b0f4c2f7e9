-- The decoder's own two tests.
use Rattle.std.proofs.Common.{arith}
use Rattle.std.proofs.lemmas.Bool.Decides.{nat_tests}
use Rattle.meaning.specs.Numbers.{◌&◌}
use Rattle.tables.specs.Decode.{within}
use Rattle.tables.proofs.in_range.Goals as goal

pub returns-then-x-ge1 : goal.returns-then-x-ge1
unfolding within ◌&◌
returns-then-x-ge1 c = grind (arith, nat_tests)

pub returns-else-x-ge1 : goal.returns-else-x-ge1
unfolding within ◌&◌
returns-else-x-ge1 c = grind (arith, nat_tests)
