-- The kind decides first, then the two ranges.
use Rattle.std.proofs.Common.{◌∙◌, arith}
use Rattle.std.proofs.lemmas.Bool.Decides.{nat_tests}
use Rattle.meaning.specs.Numbers.{◌&◌}
use Rattle.tables.proofs.Orders.{kind-tests}
use Rattle.tables.proofs.Walk.{order-tests}
use Rattle.tables.proofs.order_ok.Goals as goal

pub returns-then-in_range : goal.returns-then-in_range
unfolding ◌&◌
returns-then-in_range c =
    let a = c.args in
    let k = c.is_some.ensures ∙ kind-tests _ _ c.kind_at.ensures in
    rw (order-tests a.n a.m a.at a.orders.now (omega arith)) (grind (arith, nat_tests, k))

pub returns-else-in_range : goal.returns-else-in_range
unfolding ◌&◌
returns-else-in_range c =
    let a = c.args in
    let k = c.is_some.ensures ∙ kind-tests _ _ c.kind_at.ensures in
    rw (order-tests a.n a.m a.at a.orders.now (omega arith)) (grind (arith, nat_tests, k))
