-- No order passed so far is a broken hold.
use mathlib.Core.Path.{◌≡◌}
use lib.ListN.{drop, get_or}
use Rattle.meaning.specs.Endings.{first_broken}
use Rattle.ranks.specs.View.{market_of}
use Rattle.reasons.specs.Orders.{orders_in}
use Rattle.solver.specs.Ends.{struck_in}
use Rattle.solver.proofs.Left.first_broken.Given as goal

abbrev pub invariant-loop-k : goal.invariant-loop-k
invariant-loop-k l = let h = l.self.orders.market.heads.now in let e = l.self.orders.market.entries.now in let o = l.self.orders.cells.now in let rows = l.self.rows.now in
    first_broken (market_of h e) (struck_in h e rows) (orders_in o (get_or o 0 0)) ≡ first_broken (market_of h e) (struck_in h e rows) (drop l.k (orders_in o (get_or o 0 0)))
