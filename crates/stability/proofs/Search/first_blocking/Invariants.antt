-- The whole answer is what the trainees after give, and of this one what the rest of the list gives; nothing is found before the search stops.
use Prim.Native.Nat.{◌+◌, ◌-◌}
use mathlib.Core.Path.{◌≡◌}
use lib.ListN.{drop}
use Rattle.meaning.specs.Endings.{table_of}
use Rattle.meaning.specs.Stability.{first_on, blocking_from}
use Rattle.meaning.specs.declared.Tested.{Tested}
use Rattle.ranks.specs.View.{n_of, wishes_of, market_of}
use Rattle.stability.proofs.Search.first_blocking.Given as goal

abbrev pub invariant-loop-j : goal.invariant-loop-j
invariant-loop-j l =
    let K = market_of l.self.market.heads.now l.self.market.entries.now in
    let M = table_of l.self.table.now in
    let w = wishes_of l.self.market.heads.now l.self.market.entries.now (l.k + 1) in
    (l.found ≡ Tested.Stable) × (first_on K M (l.k + 1) w ≡ first_on K M (l.k + 1) (drop l.j-index w))

abbrev pub invariant-search : goal.invariant-search
invariant-search l =
    let K = market_of l.self.market.heads.now l.self.market.entries.now in
    let lists = wishes_of l.self.market.heads.now l.self.market.entries.now in
    let M = table_of l.self.table.now in
    (l.found ≡ Tested.Stable) × (blocking_from K lists M (n_of l.self.market.heads.now) 1 ≡ blocking_from K lists M (n_of l.self.market.heads.now + 1 - (l.k + 1)) (l.k + 1))
