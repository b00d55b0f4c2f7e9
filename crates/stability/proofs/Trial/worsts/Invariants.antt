-- After each trainee the cells are the worst ranks among those met so far, since only one depot's can have grown.
use mathlib.Core.Path.{◌≡◌}
use lib.ListN.{length}
use Rattle.meaning.specs.Endings.{table_of}
use Rattle.ranks.specs.View.{market_of}
use Rattle.stability.specs.Search.{Worsts}
use Rattle.stability.proofs.Trial.worsts.Given as goal

abbrev pub invariant-loop-k : goal.invariant-loop-k
invariant-loop-k l = (length l.worsts ≡ 65) × Worsts (market_of l.self.market.heads.now l.self.market.entries.now) (table_of l.self.table.now) l.k l.worsts
