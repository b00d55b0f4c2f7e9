-- A refusal leaves the lent tables alone; what was read stands in the scratch tables' fronts, which are laid over the lent ones.
use mathlib.Core.Path.{sym, ◌∙◌}
use native.Mathlib.Omega.{arith}
use lib.Seq.{length-take-le}
use Rattle.std.specs.Prelude.{Ok}
use Rattle.placement_reader.specs.Reading.{reads}
use Rattle.placement_reader.proofs.Below.{few-lines}
use Rattle.placement_reader.proofs.Ways.{answer-refused, used_fits, answer-taken}
use Rattle.placement_reader.proofs.read_short.Goals as goal

pub overflow_cast-result : goal.overflow_cast-result
overflow_cast-result c = omega (arith, few-lines c.args.text.now c.in-Err.ensures)

pub slice_bounds-h-end : goal.slice_bounds-h-end
slice_bounds-h-end c = omega (arith, (used_fits c.in-Ok.ensures).heads)

pub slice_bounds-lay-end : goal.slice_bounds-lay-end
slice_bounds-lay-end c = sym (length-take-le _ c.whole.new.h (omega (arith, (used_fits c.in-Ok.ensures).heads)))

pub slice_bounds-t-end : goal.slice_bounds-t-end
slice_bounds-t-end c = omega (arith, (used_fits c.in-Ok.ensures).entries)

pub slice_bounds-lay-end-in-Ok : goal.slice_bounds-lay-end-in-Ok
slice_bounds-lay-end-in-Ok c = sym (length-take-le _ c.whole.new.t (omega (arith, (used_fits c.in-Ok.ensures).entries)))

pub slice_bounds-o-end : goal.slice_bounds-o-end
slice_bounds-o-end c = omega (arith, (used_fits c.in-Ok.ensures).orders)

pub slice_bounds-lay-end-in-Ok-2 : goal.slice_bounds-lay-end-in-Ok-2
slice_bounds-lay-end-in-Ok-2 c = sym (length-take-le _ c.whole.new.o (omega (arith, (used_fits c.in-Ok.ensures).orders)))

pub returns-in-Err : goal.returns-in-Err
returns-in-Err c =
    let a = c.args in
    answer-refused a.text.now a.heads.now a.entries.now a.orders.now c.in-Err.x c.in-Err.ensures

pub returns-in-Ok : goal.returns-in-Ok
returns-in-Ok c =
    let a = c.args in
    (λ i. reads (Ok tt) (c.lay.ensures i) (c.lay-in-Ok.ensures i) (c.lay-in-Ok-2.ensures i))
    ∙ answer-taken c.in-Ok.ensures a.heads.now a.entries.now a.orders.now (omega arith) (omega arith) (omega arith)
