-- The length cell tells it.
use Prim.Native.Nat.{◌+◌}
use mathlib.Core.Path.{ap, ◌∙◌}
use lib.ListN.{get_or}
use lib.Dec.{eqb}
use Rattle.tables.specs.Cells.{missing_cell}
use Rattle.tables.specs.Walk.{trainee_missing}
use Rattle.tables.proofs.Tests.{cell-none}
use Rattle.tables.proofs.trainee_lacks.Goals as goal

pub returns : goal.returns
unfolding trainee_missing
returns c = cell-none _ _ _ c.length_of.ensures c.is_none.ensures ∙ ap (λ x. eqb (get_or c.args.heads.now (x + 1) 0) missing_cell) c.trainee_at.ensures
