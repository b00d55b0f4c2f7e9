-- The first found from here on is the first of all.
use Prim.Native.Nat.{◌+◌, ◌-◌}
use mathlib.Core.Path.{◌≡◌}
use Rattle.meaning.specs.Endings.{table_of}
use Rattle.meaning.specs.Numbers.{first_from}
use Rattle.meaning.specs.Stability.{first_stranger}
use Rattle.ranks.specs.View.{n_of, market_of}
use Rattle.stability.specs.Search.{stranger?}
use Rattle.stability.proofs.Trial.first_stranger.Given as goal

abbrev pub invariant-loop-k : goal.invariant-loop-k
invariant-loop-k l =
    let K = market_of l.self.market.heads.now l.self.market.entries.now in
    let M = table_of l.self.table.now in
    first_stranger K M ≡ first_from (n_of l.self.market.heads.now + 1 - (l.k + 1)) (l.k + 1) (stranger? K M)
