-- After k orders the rows keep the first k.
use native.Mathlib.Omega.{arith}
use mathlib.Core.Path.{refl}
use Rattle.reasons.proofs.Noting.{noted_more}
use Rattle.reasons.proofs.Orders.note_all.Goals as goal

pub loop-k-preserved : goal.loop-k-preserved
loop-k-preserved c = let o = c.args.self.now in noted_more _ _ o.market.full.few_depots o.full _ (omega (arith, c.count-k-end.ensures)) _ _ c.loop-k.invariant _ refl _ _ c.note.ensures.0 c.note.ensures.1
