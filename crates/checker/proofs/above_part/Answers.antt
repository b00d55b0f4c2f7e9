-- The place of the trainee is where the part ends. Assumes nothing.
use Rattle.checker.proofs.Ways.{above-inside, above-is}
use Rattle.checker.proofs.above_part.Goals as goal

pub slice_bounds-result-end : goal.slice_bounds-result-end
slice_bounds-result-end c = above-inside c.args.market.now.heads.now c.args.market.now.entries.now c.args.i c.args.j _ c.ranking-ranking.ensures _ c.place_on.ensures _ c.unwrap_or-end.ensures

pub returns : goal.returns
returns c = above-is _ _ _ _ _ c.ranking-ranking.ensures _ c.place_on.ensures _ c.unwrap_or-end.ensures
