-- No order passed so far is a broken hold.
use native.Mathlib.Omega.{arith}
use mathlib.Core.Path.{sym, ◌∙◌}
use Rattle.solver.proofs.Searches.{broken-hit, broken-on, broken-end}
use Rattle.solver.proofs.Left.first_broken.Goals as goal

pub returns-then-breaks : goal.returns-then-breaks
returns-then-breaks c = broken-hit _ _ c.args.self.now.orders.cells.now _ _ _ c.loop-k.invariant (omega (arith, c.count-k-end.ensures)) (sym c.breaks.ensures ∙ c.if-breaks.true) _ _ c.trainee.ensures c.depot.ensures

pub loop-k-preserved : goal.loop-k-preserved
loop-k-preserved c = broken-on _ _ c.args.self.now.orders.cells.now _ _ _ c.loop-k.invariant (omega (arith, c.count-k-end.ensures)) (sym c.breaks.ensures ∙ c.if-breaks.false)

pub returns : goal.returns
returns c = broken-end _ _ c.args.self.now.orders.cells.now _ _ _ c.loop-k.invariant (omega (arith, c.count-k-end.ensures))
