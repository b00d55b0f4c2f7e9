-- What is left of the orders is decoded from where the walk stands.
use Prim.Native.Nat.{◌-◌}
use mathlib.Core.Path.{◌≡◌}
use mathlib.Core.List.{[]}
use lib.ListN.{drop}
use Rattle.meaning.specs.Lists.{weigh}
use Rattle.tables.specs.Cells.{weightless, order_start}
use Rattle.tables.specs.Decode.{order_from, orders_from, series_from}
use Rattle.tables.specs.Walk.{end_of}
use Rattle.tables.proofs.first_orders_ok.Given as goal

abbrev pub invariant-loop-k : goal.invariant-loop-k
invariant-loop-k l =
    end_of (weigh weightless) 0 (orders_from l.n l.m l.count (drop 1 l.orders))
    ≡ end_of (weigh weightless) 0 (series_from (order_from l.n l.m) weightless 3 (l.count - l.k) 0 (drop (order_start l.k) l.orders) [])
