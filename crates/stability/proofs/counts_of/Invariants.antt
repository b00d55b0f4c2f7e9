-- After each trainee the cells are the counts among those met so far, since one more is counted at one depot only.
use mathlib.Core.Path.{◌≡◌}
use lib.ListN.{length}
use Rattle.meaning.specs.Endings.{table_of}
use Rattle.stability.specs.Search.{Counts}
use Rattle.stability.proofs.counts_of.Given as goal

abbrev pub invariant-loop-j : goal.invariant-loop-j
invariant-loop-j l = (length l.counts ≡ 65) × Counts (table_of l.table) l.j-index l.counts
