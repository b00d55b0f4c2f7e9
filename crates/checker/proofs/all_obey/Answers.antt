-- After k turns trainees 1 to k obey their rows. Assumes nothing.
use mathlib.Core.Path.{◌≡◌}
use native.Mathlib.Omega.{arith}
use Rattle.checker.specs.Ends.{all_obey}
use Rattle.ranks.specs.View.{n_of}
use Rattle.checker.proofs.Loops.{passed-more, passed-all, passed-not, obeys-at}
use Rattle.checker.proofs.all_obey.Goals as goal

pub returns-then-not-obeys_rows : goal.returns-then-not-obeys_rows
unfolding all_obey
returns-then-not-obeys_rows c =
    let s = c.args.standing.now in
    passed-not _ (n_of s.market.heads.now) c.loop-k.k (omega (arith, c.requires.0)) (obeys-at s.holds.now s.bars.now c.args.cells.now c.loop-k.k _ _ c.from.ensures c.if-not-obeys_rows.ensures)

pub loop-k-preserved : goal.loop-k-preserved
loop-k-preserved c =
    let s = c.args.standing.now in
    passed-more _ c.loop-k.k c.loop-k.invariant (obeys-at s.holds.now s.bars.now c.args.cells.now c.loop-k.k _ _ c.from.ensures c.if-not-obeys_rows.ensures)

pub returns : goal.returns
unfolding all_obey
returns c =
    let e : c.loop-k.k ≡ n_of c.args.standing.now.market.heads.now = omega (arith, c.requires.0) in passed-all _ (n_of c.args.standing.now.market.heads.now) (rw e at c.loop-k.invariant)
