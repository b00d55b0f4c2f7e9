-- As many orders are decoded as the first cell says, so its limit is theirs.
use mathlib.Core.Path.{ap, ◌∙◌}
use native.Mathlib.Omega.{arith}
use lib.ListN.{drop}
use borrow.Author.Tests.{lt-leb}
use Rattle.tables.specs.Decode.{orders_from}
use Rattle.tables.specs.Walk.{is_some}
use Rattle.tables.proofs.Walk.{orders-many, orders-few}
use Rattle.tables.proofs.orders_ok.Goals as goal

pub returns-then-count-le1024 : goal.returns-then-count-le1024
returns-then-count-le1024 c =
    let a = c.args in
    c.first_orders_ok.ensures ∙ ap (λ k. is_some (orders_from a.n a.m k (drop 1 a.orders.now))) c.orders_of-count.ensures
    ∙ orders-few a.n a.m a.orders.now (omega arith) (omega arith)

pub returns-else-count-le1024 : goal.returns-else-count-le1024
returns-else-count-le1024 c =
    let a = c.args in
    lt-leb c.orders_of-count.result 1024 c.if-count-le1024.false ∙ orders-many a.n a.m a.orders.now (omega arith) (omega arith)
