-- Whoever is not above the trainee fits nothing; of one who is, how far everything is struck decides. Assumes nothing.
use mathlib.Core.Path.{◌∙◌, sym}
use Rattle.checker.proofs.Ways.{and-stops, and-goes, not-above, is-above, above-trainee, down-far}
use Rattle.checker.proofs.passed_by.Goals as goal

pub settled_with-requires : goal.settled_with-requires
settled_with-requires c = let r = c.args.rows.now in above-trainee _ _ r.marks.now _ _ r.market.full _ c.above_part-above.ensures _ _ c.place_on.ensures (sym c.if-is_some.ensures)

pub returns-then-is_some : goal.returns-then-is_some
returns-then-is_some c = let r = c.args.rows.now in c.eq.ensures ∙ down-far _ _ _ _ _ _ c.settled_with.ensures ∙ and-goes _ (is-above _ _ r.marks.now _ _ r.market.full _ c.above_part-above.ensures _ _ c.place_on.ensures (sym c.if-is_some.ensures))

pub returns-else-is_some : goal.returns-else-is_some
returns-else-is_some c = let r = c.args.rows.now in c.if-is_some.false ∙ and-stops _ (not-above _ _ r.marks.now _ _ r.market.full _ c.above_part-above.ensures _ _ c.place_on.ensures (sym c.if-is_some.ensures))
