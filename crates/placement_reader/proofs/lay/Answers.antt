-- The front is the cells, and what is behind it stays.
use Prim.Native.Nat.{ℕ}
use mathlib.Core.Path.{ap}
use mathlib.Core.List.{List, ◌++◌}
use lib.ListN.{length, drop}
use Rattle.tables.specs.Cells.{laid}
use Rattle.placement_reader.proofs.lay.Goals as goal

pub returns : goal.returns
unfolding laid
returns c = ap (λ (x : List ℕ). x ++ drop (length c.args.cells.now) c.args.table.now) c.copy_from_slice.ensures.after
