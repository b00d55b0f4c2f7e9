-- After k turns the rows hold the first k strikes, and the answer comes from what follows. Assumes nothing.
use mathlib.Core.Path.{sym, subst}
use Rattle.meaning.specs.Numbers.{In}
use Rattle.meaning.specs.declared.Strike.{Strike}
use Rattle.ranks.specs.View.{n_of}
use Rattle.checker.proofs.Replaying.{going-stops, going_more}
use Rattle.checker.proofs.replay.Goals as goal

pub returns-then-not-strike_one : goal.returns-then-not-strike_one
returns-then-not-strike_one c =
    let a = c.args.standing.now in
    let ri = subst (λ (s : Strike). In (n_of a.market.heads.now) s.trainee) (sym c.strike_in.ensures) (c.requires.0 _ c.loop-k-test.true) in
    going-stops _ _ _ _ _ _ a.market.full a.inside _ _ c.loop-k.invariant c.loop-k-test.true _ c.strike_in.ensures ri (sym c.if-not-strike_one.ensures.0)

pub loop-k-preserved : goal.loop-k-preserved
loop-k-preserved c =
    let a = c.args.standing.now in
    let ri = subst (λ (s : Strike). In (n_of a.market.heads.now) s.trainee) (sym c.strike_in.ensures) (c.requires.0 _ c.loop-k-test.true) in
    let t = c.if-not-strike_one.ensures.0 in
    going_more _ _ _ _ _ _ a.market.full a.inside _ _ c.loop-k.invariant c.loop-k-test.true _ c.strike_in.ensures ri _ (sym t) c.if-not-strike_one.ensures.1
