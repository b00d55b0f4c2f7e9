-- The decoder's own three tests.
use Rattle.std.proofs.Common.{arith}
use Rattle.std.proofs.lemmas.Bool.Decides.{nat_tests}
use Rattle.meaning.specs.Numbers.{◌&◌}
use Rattle.tables.specs.Decode.{limits}
use Rattle.tables.proofs.limits_ok.Goals as goal

pub returns-then-n-le256 : goal.returns-then-n-le256
unfolding limits ◌&◌
returns-then-n-le256 c = grind (arith, nat_tests)

pub returns-else-n-le256 : goal.returns-else-n-le256
unfolding limits ◌&◌
returns-else-n-le256 c = grind (arith, nat_tests)
