-- The posts decide first, then the length.
use Prim.Native.Nat.{◌+◌}
use mathlib.Core.Path.{sym, ap, ◌∙◌}
use lib.ListN.{get_or}
use lib.Dec.{eqb}
use Rattle.meaning.specs.Numbers.{◌or◌}
use Rattle.tables.specs.Cells.{missing_cell}
use Rattle.tables.specs.Walk.{depot_missing}
use Rattle.tables.proofs.Tests.{cell-none}
use Rattle.tables.proofs.depot_lacks.Goals as goal

pub returns-then-is_none : goal.returns-then-is_none
unfolding depot_missing ◌or◌
returns-then-is_none c =
    let h = c.args.heads.now in
    let p = sym (cell-none _ _ _ c.posts_of.ensures c.is_none.ensures ∙ ap (λ x. eqb (get_or h (x + 2) 0) missing_cell) c.depot_at-at.ensures) in
    c.if-is_none.true ∙ rw (p, c.if-is_none.true)

pub returns-else-is_none : goal.returns-else-is_none
unfolding depot_missing ◌or◌
returns-else-is_none c =
    let h = c.args.heads.now in
    let p = sym (cell-none _ _ _ c.posts_of.ensures c.is_none.ensures ∙ ap (λ x. eqb (get_or h (x + 2) 0) missing_cell) c.depot_at-at.ensures) in
    rw (p, c.if-is_none.false) (cell-none _ _ _ c.length_of.ensures c.is_none-else-is_none.ensures ∙ ap (λ x. eqb (get_or h (x + 1) 0) missing_cell) c.depot_at-at.ensures)
