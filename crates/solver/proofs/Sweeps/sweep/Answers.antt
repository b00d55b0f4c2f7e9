-- After the trainees below i the record is that of the rows below i.
use native.Mathlib.Omega.{arith}
use Rattle.meaning.specs.Solver.{row_by}
use Rattle.ranks.specs.View.{wishes_of}
use Rattle.solver.specs.Going.{visit_by}
use Rattle.solver.specs.Sweeping.{record_of}
use Rattle.solver.proofs.Sweeping.{swept-on}
use Rattle.solver.proofs.Turns.{rows_more, rows-done}
use Rattle.solver.proofs.Sweeps.sweep.Goals as goal

pub loop-i-preserved : goal.loop-i-preserved
loop-i-preserved c =
    let l = c.loop-i in
    let w = swept-on _ _ _ (λ s. row_by (visit_by s) l.i (wishes_of s.market.heads.now s.market.entries.now l.i) (record_of l.self)) l.invariant.same c.visit_list.ensures in
    record { same = w.same; going = w.came.going; is = rows_more _ _ _ l.i _ _ l.invariant.is (omega (arith, c.trainees-i-end.ensures)) _ w.came.is }

pub returns : goal.returns
returns c =
    let l = c.loop-i in
    record { same = l.invariant.same; came = record { going = l.invariant.going; is = rows-done _ _ _ l.i _ _ l.invariant.is (omega (arith, c.trainees-i-end.ensures)) } }
