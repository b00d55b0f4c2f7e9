-- After the places below p the record is that of the places below p.
use native.Mathlib.Omega.{arith}
use mathlib.Core.Path.{ap}
use lib.ListN.{length, get_or}
use Rattle.ranks.specs.View.{wishes_of}
use Rattle.solver.specs.Going.{visit_by}
use Rattle.solver.specs.Sweeping.{record_of}
use Rattle.solver.proofs.Sweeping.{swept-on}
use Rattle.solver.proofs.Turns.{row_more, row_done}
use Rattle.solver.proofs.Sweeps.visit_list.Goals as goal

pub loop-p-preserved : goal.loop-p-preserved
loop-p-preserved c =
    let l = c.loop-p in
    let w = swept-on _ _ _ (λ s. visit_by s c.args.i (get_or (wishes_of s.market.heads.now s.market.entries.now c.args.i) l.p 0) (record_of l.self)) l.invariant.same c.visit_place.ensures in
    record { same = w.same; going = w.came.going; is = row_more _ _ _ l.p _ _ l.invariant.is (omega (arith, ap length c.wishes-p-end.ensures)) _ w.came.is }

pub returns : goal.returns
returns c =
    let l = c.loop-p in
    record { same = l.invariant.same; came = record { going = l.invariant.going; is = row_done _ _ _ l.p _ _ l.invariant.is (omega (arith, ap length c.wishes-p-end.ensures)) } }
