-- The front of the array is the left table. Assumes nothing.
use mathlib.Core.Path.{◌∙◌}
use native.Mathlib.Omega.{arith}
use Rattle.ranks.specs.View.{market_of}
use Rattle.checker.proofs.Loops.{room-counted, room-over, room_within, within-first}
use Rattle.checker.proofs.Placements.{left-front, counts_all}
use Rattle.checker.proofs.room_left.Goals as goal

pub counts_of-counts-requires : goal.counts_of-counts-requires
counts_of-counts-requires c = let r = c.args.rows.now in
    let f = left-front _ _ r.marks.now r.market.full _ c.trainees.ensures _ (omega (arith, r.market.full.few_trainees)) c.left_table-left.ensures in (omega (arith, f.long, r.market.full.few_trainees), f.low)

pub returns-then-is_none : goal.returns-then-is_none
returns-then-is_none c = let r = c.args.rows.now in
    let f = left-front _ _ r.marks.now r.market.full _ c.trainees.ensures _ (omega (arith, r.market.full.few_trainees)) c.left_table-left.ensures in
    c.room_at.ensures
    ∙ room-counted _ _ r.market.full c.args.i c.args.j r.marks.now _ _ (counts_all _ _ _ c.counts_of-counts.result f.long c.counts_of-counts.ensures)
    ∙ room_within _ _ _ _ f.cells_are c.args.i c.args.j (within-first (market_of r.market.heads.now r.market.entries.now) _ _ c.first_over.ensures _ c.if-is_none.ensures)

pub returns-else-is_none : goal.returns-else-is_none
returns-else-is_none c = let r = c.args.rows.now in
    let f = left-front _ _ r.marks.now r.market.full _ c.trainees.ensures _ (omega (arith, r.market.full.few_trainees)) c.left_table-left.ensures in
    c.if-is_none.false ∙ room-over _ _ _ _ f.cells_are c.args.i c.args.j (within-first (market_of r.market.heads.now r.market.entries.now) _ _ c.first_over.ensures _ c.if-is_none.ensures)
