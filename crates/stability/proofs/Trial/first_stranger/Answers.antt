-- The first found from here on is the first of all.
use Prim.Native.Nat.{◌+◌, ◌-◌}
use native.Mathlib.Omega.{arith}
use Rattle.meaning.specs.Endings.{table_of}
use Rattle.meaning.specs.Stability.{first_stranger}
use Rattle.ranks.specs.View.{n_of, market_of}
use Rattle.stability.specs.Search.{found_of}
use Rattle.stability.proofs.Firsts.{first-here, first-later, first-none, from_one, its-cell, stranger-at}
use Rattle.stability.proofs.Trial.first_stranger.Goals as goal

pub loop-k-init : goal.loop-k-init
unfolding first_stranger market_of
loop-k-init c = from_one _ _

pub returns-then-is_stranger : goal.returns-then-is_stranger
unfolding found_of
returns-then-is_stranger c =
    let s = c.args.self.now in
    let k = c.loop-k.k in
    first-here _ _ (k + 1) _ c.loop-k.invariant (n_of s.market.heads.now + 1 - (k + 1 + 1)) (omega (arith, s.known.cells))
    (stranger-at (market_of s.market.heads.now s.market.entries.now) (table_of s.table.now) (k + 1) _ _ (its-cell s.table.now k _ c.from.ensures) c.if-is_stranger.ensures)

pub loop-k-preserved : goal.loop-k-preserved
loop-k-preserved c =
    let s = c.args.self.now in
    let k = c.loop-k.k in
    first-later _ _ (k + 1) _ c.loop-k.invariant (n_of s.market.heads.now + 1 - (k + 1 + 1)) (omega (arith, s.known.cells))
    (stranger-at (market_of s.market.heads.now s.market.entries.now) (table_of s.table.now) (k + 1) _ _ (its-cell s.table.now k _ c.from.ensures) c.if-is_stranger.ensures)

pub returns : goal.returns
unfolding found_of
returns c = first-none _ _ (c.loop-k.k + 1) _ c.loop-k.invariant (omega (arith, c.args.self.now.known.cells))
