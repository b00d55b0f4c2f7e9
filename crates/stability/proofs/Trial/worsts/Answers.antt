-- After each trainee the cells are the worst ranks among those met so far, since only one depot's can have grown.
use Prim.Native.Nat.{◌≤◌}
use mathlib.Core.Path.{refl, sym, ap, ◌∙◌}
use native.Mathlib.Omega.{arith}
use lib.ListN.{length-set, get_or}
use Rattle.ranks.specs.View.{market_of}
use Rattle.stability.specs.Search.{larger}
use Rattle.stability.proofs.Blocking.{rank-none, rank-some}
use Rattle.stability.proofs.Firsts.{its-cell}
use Rattle.stability.proofs.Seats.{worsts-start, worsts-more, worsts-same, larger-max, given-in}
use Rattle.stability.proofs.Trial.worsts.Goals as goal
use Rattle.stability.proofs.Trial.worsts.Goals.{in-Some, in_default}

pub loop-k-init : goal.loop-k-init
loop-k-init c = (refl, worsts-start _ _)

pub rank_at-requires : goal.rank_at-requires
rank_at-requires c = given-in _ _ _ c.requires c.loop-k.k _ c.loop-k-test.true (its-cell _ _ _ c.from-j.ensures)

pub bounds-worsts-j : goal.bounds-worsts-j
bounds-worsts-j c = omega (arith, given-in _ _ _ c.requires c.loop-k.k _ c.loop-k-test.true (its-cell _ _ _ c.from-j.ensures), c.requires.tables.full.few_depots)

pub bounds-worsts-j-in-Some : goal.bounds-worsts-j-in-Some
bounds-worsts-j-in-Some c = omega (arith, given-in _ _ _ c.requires c.loop-k.k _ c.loop-k-test.true (its-cell _ _ _ c.from-j.ensures), c.requires.tables.full.few_depots)

pub loop-k-preserved : goal.loop-k-preserved
unfolding market_of
loop-k-preserved c =
    let l = c.loop-k in
    let j = c.from-j.result in
    let own = its-cell c.args.self.now.table.now l.k j c.from-j.ensures in
    let small : j ≤ 64 = omega (arith, given-in _ _ _ c.requires l.k j c.loop-k-test.true own, c.requires.tables.full.few_depots) in
    elim c.match-rank_at.branch [
      | in-Some w ↦ rw w.worsts-is (length-set l.worsts _ _ ∙ l.invariant.0, worsts-more _ l.k l.worsts l.invariant.0 j small own _ l.invariant.1 _ (w.max.ensures ∙ larger-max _ _ ∙ ap (larger (get_or l.worsts j 0)) (sym (rank-some _ _ w.in-Some.ensures).0)))
      | in_default w ↦ rw w.worsts-is (l.invariant.0, worsts-same _ l.k l.worsts l.invariant.0 j small own _ l.invariant.1 (rank-none _ w.in_default.ensures))
    ]
