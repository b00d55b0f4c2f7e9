-- The record grows with each sweep that strikes and never past the mutual pairs, so the sweeps end where the definition's do.
use Rattle.solver.proofs.Sweeping.{same-self, sweep-on}
use Rattle.solver.proofs.Turns.{fuel-start, turn-less, turn_more, turn-done}
use Rattle.solver.proofs.Sweeps.sweep_all.Goals as goal

pub loop-self-init : goal.loop-self-init
loop-self-init c = record { same = same-self _; going = c.requires.0; fuel = rw c.requires.1 (fuel-start _ _ _ _ _) }

pub returns-then-self-before : goal.returns-then-self-before
returns-then-self-before c =
    let l = c.loop-self in
    let w = sweep-on _ _ _ l.invariant.same c.sweep.ensures in
    record { same = w.same; came = record { going = w.came.going; is = turn-done _ _ _ _ _ _ l.self.used l.invariant.going _ _ _ w.came c.if-self-before.true _ l.invariant.fuel } }

pub loop-self-smaller : goal.loop-self-smaller
loop-self-smaller c =
    let l = c.loop-self in
    let w = sweep-on _ _ _ l.invariant.same c.sweep.ensures in
    turn-less _ _ _ _ _ _ l.self.used l.invariant.going _ _ _ w.came c.if-self-before.false

pub loop-self-preserved : goal.loop-self-preserved
loop-self-preserved c =
    let l = c.loop-self in
    let w = sweep-on _ _ _ l.invariant.same c.sweep.ensures in
    record { same = w.same; going = w.came.going; fuel = turn_more _ _ _ _ _ _ l.self.used l.invariant.going _ _ _ w.came c.if-self-before.false _ l.invariant.fuel }
