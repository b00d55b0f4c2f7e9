-- An order has no entries, so the walk's end is 0 exactly if every order is one.
use Prim.Native.Nat.{◌+◌, ◌-◌}
use mathlib.Core.Path.{sym, ap, ◌∙◌}
use mathlib.Core.List.{[]}
use native.Mathlib.Omega.{arith}
use native.Mathlib.Nat.{sub-zero}
use lib.ListN.{drop}
use Rattle.meaning.specs.Lists.{weigh}
use Rattle.tables.specs.Cells.{weightless, order_start}
use Rattle.tables.specs.Decode.{order_from, orders_from}
use Rattle.tables.specs.Walk.{is_some}
use Rattle.tables.proofs.Walk.{left-more, left-none, left-done, is-some, is_none, some-light, none-light}
use Rattle.tables.proofs.first_orders_ok.Goals as goal

pub loop-k-init : goal.loop-k-init
loop-k-init c = rw sub-zero

pub returns-then-not-order_ok : goal.returns-then-not-order_ok
returns-then-not-order_ok c =
    let a = c.args in
    let l = c.loop-k in
    let here = ap (λ at. is_some (order_from a.n a.m 0 (drop at a.orders.now) [])) c.order_at.ensures in
    is_none (weigh weightless) 0 (orders_from a.n a.m a.count (drop 1 a.orders.now))
    (left-none (order_from a.n a.m) weightless 3 a.orders.now [] (order_start l.k) 0 (a.count - l.k) _ l.invariant (a.count - (l.k + 1)) (omega arith)
    (none-light (order_from a.n a.m 0 (drop (order_start l.k) a.orders.now) []) (sym (c.order_ok.ensures ∙ here) ∙ c.if-not-order_ok.true)))

pub loop-k-preserved : goal.loop-k-preserved
loop-k-preserved c =
    let a = c.args in
    let l = c.loop-k in
    let here = ap (λ at. is_some (order_from a.n a.m 0 (drop at a.orders.now) [])) c.order_at.ensures in
    left-more (order_from a.n a.m) weightless 3 a.orders.now [] (order_start l.k) 0 (a.count - l.k) _ l.invariant (a.count - (l.k + 1)) (order_start (l.k + 1)) 0 (omega arith) (omega arith)
    (some-light (order_from a.n a.m 0 (drop (order_start l.k) a.orders.now) []) (sym (c.order_ok.ensures ∙ here) ∙ c.if-not-order_ok.false))

pub returns : goal.returns
returns c =
    let a = c.args in
    let l = c.loop-k in
    is-some (weigh weightless) 0 (orders_from a.n a.m a.count (drop 1 a.orders.now))
    (left-done (order_from a.n a.m) weightless 3 a.orders.now [] (order_start l.k) 0 (a.count - l.k) _ l.invariant (omega arith))
