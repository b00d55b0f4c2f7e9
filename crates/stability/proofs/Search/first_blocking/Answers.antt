-- The whole answer is what the trainees after give, and of this one what the rest of the list gives; past one's own depot nobody gains, so nothing is missed there.
use Prim.Native.Nat.{◌+◌, ◌-◌}
use mathlib.Core.Path.{refl, ◌∙◌}
use native.Mathlib.Omega.{arith}
use Rattle.ranks.specs.View.{n_of}
use Rattle.stability.proofs.Firsts.{its-cell}
use Rattle.stability.proofs.Blocking.{own-listed, pair_found, pair-passed, pairs-done, list-found, list-none, lists-start, lists-done}
use Rattle.stability.proofs.Search.first_blocking.Goals as goal

pub search-init : goal.search-init
search-init c = (refl, lists-start _ _ _ _)

pub above_own-j-items-requires : goal.above_own-j-items-requires
above_own-j-items-requires c =
    let s = c.args.self.now.known.paired in
    own-listed _ _ _ s (c.search.k + 1) (record { low = omega arith; high = omega (arith, s.tables.cells) }) _ c.wishes.ensures _ (its-cell _ _ _ c.from.ensures)

pub loop-j-preserved : goal.loop-j-preserved
loop-j-preserved c = (
  c.loop-j.invariant.0,
  pair-passed _ _ _ _ _ c.args.self.now.known (c.search.k + 1) _ c.wishes.ensures _ (its-cell _ _ _ c.from.ensures) _ c.above_own-j-items.ensures _ c.loop-j.invariant.1 c.loop-j-test.true _ c.from-in-loop-j.ensures _ c.takes.ensures c.if-takes.false,
)

pub search-preserved : goal.search-preserved
search-preserved c =
    let s = c.args.self.now in
    let none = pairs-done _ _ _ _ _ s.known (c.search.k + 1) _ c.wishes.ensures _ (its-cell _ _ _ c.from.ensures) _ c.above_own-j-items.ensures _ c.loop-j.invariant.1 c.loop-j-test.false in (
      c.loop-j.invariant.0,
      list-none _ _ _ _ (c.search.k + 1) _ c.search.invariant.1 (n_of s.market.heads.now + 1 - (c.search.k + 1 + 1)) (omega (arith, s.known.paired.tables.cells)) none,
    )

pub returns-after-search : goal.returns-after-search
returns-after-search c = c.search.invariant.0 ∙ lists-done _ _ _ _ (c.search.k + 1) _ c.search.invariant.1 (omega (arith, c.args.self.now.known.paired.tables.cells))

pub returns-then-takes : goal.returns-then-takes
returns-then-takes c =
    let s = c.args.self.now in
    let pair = pair_found _ _ _ _ _ s.known (c.search.k + 1) _ c.wishes.ensures _ (its-cell _ _ _ c.from.ensures) _ c.above_own-j-items.ensures _ c.loop-j.invariant.1 c.loop-j-test.true _ c.from-in-loop-j.ensures _ c.takes.ensures c.if-takes.true in
    list-found _ _ _ _ (c.search.k + 1) _ c.search.invariant.1 (n_of s.market.heads.now + 1 - (c.search.k + 1 + 1)) (omega (arith, s.known.paired.tables.cells)) _ pair
