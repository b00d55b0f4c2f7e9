-- A turn lays one strike more. Assumes nothing.
use native.Mathlib.Omega.{arith}
use Rattle.strikes.specs.Cells.{strikes_in}
use Rattle.strikes.proofs.Rows.{flat_start, lay-more}
use Rattle.strikes.proofs.lay_strikes.Goals as goal

pub loop-k-init : goal.loop-k-init
loop-k-init c = flat_start (strikes_in c.args.cells.now c.args.count) c.args.out.now

pub loop-k-preserved : goal.loop-k-preserved
loop-k-preserved c =
    let a = c.args in
    let l = c.loop-k in
    lay-more a.cells.now a.out.now a.count _ _ l.k _ (omega arith) (omega arith) l.invariant c.strike_in.ensures c.put_strike.ensures
