-- The definition's own three tests.
use Rattle.std.proofs.Common.{arith}
use Rattle.std.proofs.lemmas.Bool.Decides.{nat_tests}
use Rattle.meaning.specs.Numbers.{◌&◌}
use Rattle.tables.specs.Answers.{sized}
use Rattle.tables.proofs.sizes_ok.Goals as goal

pub returns-then-entries-ge8192 : goal.returns-then-entries-ge8192
unfolding sized ◌&◌
returns-then-entries-ge8192 c = grind (arith, nat_tests)

pub returns-else-entries-ge8192 : goal.returns-else-entries-ge8192
unfolding sized ◌&◌
returns-else-entries-ge8192 c = grind (arith, nat_tests)
