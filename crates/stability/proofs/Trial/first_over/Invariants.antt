-- The first found from here on is the first of all.
use Prim.Native.Nat.{◌+◌, ◌-◌}
use mathlib.Core.Path.{◌≡◌}
use lib.Dec.{ltb}
use Rattle.meaning.specs.Endings.{table_of}
use Rattle.meaning.specs.Market.{placed}
use Rattle.meaning.specs.Numbers.{first_from}
use Rattle.meaning.specs.Stability.{first_over}
use Rattle.ranks.specs.View.{m_of, market_of}
use Rattle.stability.proofs.Trial.first_over.Given as goal

abbrev pub invariant-loop-j : goal.invariant-loop-j
invariant-loop-j l =
    let K = market_of l.self.market.heads.now l.self.market.entries.now in
    let M = table_of l.self.table.now in
    first_over K M ≡ first_from (m_of l.self.market.heads.now + 1 - l.j) l.j (λ j. ltb (K.posts j) (placed K M j))
