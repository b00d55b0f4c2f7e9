-- The pass along the part above counts what the meaning counts. Assumes nothing.
use Rattle.checker.proofs.Ways.{above-ready, posts-counted}
use Rattle.checker.proofs.posts_gone.Goals as goal

pub pass_along-t-requires : goal.pass_along-t-requires
pass_along-t-requires c = let r = c.args.rows.now in above-ready _ _ r.marks.now c.args.i c.args.j r.market.full _ c.above_part.ensures

pub returns : goal.returns
returns c = posts-counted _ _ _ _ _ c.args.rows.now.market.full _ c.above_part.ensures _ _ c.posts.ensures c.pass_along-t.ensures.0
