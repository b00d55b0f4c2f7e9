-- One pass along the part above i has both the number settled and the smallest who was passed.
use native.Mathlib.Omega.{arith}
use mathlib.Core.Path.{◌≡◌, ap, ◌∙◌}
use lib.ListN.{length-take}
use Rattle.std.proofs.Common.{rules}
use Rattle.reasons.specs.Answers.{choice_of}
use Rattle.reasons.proofs.Steps.{ranked-inside, crowd-gone, passed_by, crowd-passed}
use Rattle.reasons.proofs.Rows.crowded.Goals as goal

pub slice_bounds-pass_along-end : goal.slice_bounds-pass_along-end
slice_bounds-pass_along-end c = let r = ranked-inside _ _ c.args.self.now.marks.now _ c.args.j _ _ _ c.ranking-ranking.ensures c.place_on.ensures c.unwrap-end.ensures in omega (arith, r, length-take c.unwrap-end.result c.ranking-ranking.result.now)

pub returns-then-posts-t : goal.returns-then-posts-t
unfolding choice_of
returns-then-posts-t c = crowd-gone _ _ _ _ c.args.j _ _ _ c.ranking-ranking.ensures c.place_on.ensures c.unwrap-end.ensures _ _ _ c.posts.ensures c.pass_along-t.ensures.0 c.pass_along-t.ensures.1 c.if-posts-t.true

pub returns : goal.returns
returns c =
    let e : c.map.result ≡ passed_by c.pass_along-t.result.passed = search rules in
    ap choice_of e ∙ crowd-passed _ _ _ _ c.args.j _ _ _ c.ranking-ranking.ensures c.place_on.ensures c.unwrap-end.ensures _ _ _ c.posts.ensures c.pass_along-t.ensures.0 c.pass_along-t.ensures.1 c.if-posts-t.false
