-- The first found from here on is the first of all; the counts say whether a depot is over its posts.
use Prim.Native.Nat.{◌+◌, ◌-◌}
use native.Mathlib.Omega.{arith}
use Rattle.meaning.specs.Endings.{table_of}
use Rattle.meaning.specs.Stability.{first_over}
use Rattle.ranks.specs.View.{m_of, market_of}
use Rattle.stability.specs.Search.{found_of}
use Rattle.stability.proofs.Firsts.{first-here, first-later, first-none, from_one}
use Rattle.stability.proofs.Seats.{over-posts, within-posts}
use Rattle.stability.proofs.Trial.first_over.Goals as goal

pub loop-j-init : goal.loop-j-init
unfolding first_over market_of
loop-j-init c = from_one _ _

pub returns-then-posts-from : goal.returns-then-posts-from
unfolding found_of
returns-then-posts-from c =
    let s = c.args.self.now in
    let j = c.loop-j.j in
    first-here _ _ j _ c.loop-j.invariant (m_of s.market.heads.now + 1 - (j + 1)) (omega arith)
    (over-posts s.market.heads.now s.market.entries.now (table_of s.table.now) c.args.counts.now c.requires j _ (omega (arith, s.known.full.few_depots)) c.posts.ensures (omega (arith, c.from.ensures)))

pub loop-j-preserved : goal.loop-j-preserved
loop-j-preserved c =
    let s = c.args.self.now in
    let j = c.loop-j.j in
    first-later _ _ j _ c.loop-j.invariant (m_of s.market.heads.now + 1 - (j + 1)) (omega arith)
    (within-posts s.market.heads.now s.market.entries.now (table_of s.table.now) c.args.counts.now c.requires j _ (omega (arith, s.known.full.few_depots)) c.posts.ensures (omega (arith, c.from.ensures)))

pub returns : goal.returns
unfolding found_of
returns c = first-none _ _ c.loop-j.j _ c.loop-j.invariant (omega arith)
