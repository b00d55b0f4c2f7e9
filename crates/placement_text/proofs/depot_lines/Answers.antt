-- The invariant: what is left, read after the depots so far, is the reading of all lines; their heads and entries stand in the cells.
use Rattle.std.proofs.lemmas.Result.{err_from_is_err_and}
use Rattle.placement_text.proofs.Turns.{depot-start, depot-done, depot-turn-refused, depot-turn-on}
use Rattle.placement_text.proofs.depot_lines.Goals as goal

pub loop-c-init : goal.loop-c-init
loop-c-init c = depot-start c.args.sizes.trainees c.args.base c.args.text.now.rest.now c.args.sizes.depots c.args.h.now c.args.t.now

pub returns-in_err-row-clause-read : goal.returns-in_err-row-clause-read
returns-in_err-row-clause-read c =
    let p = err_from_is_err_and c.from_residual.result c.from_residual.ensures.1 in
    rw (p.1, p.2) (depot-turn-refused c.args.sizes.trainees c.args.base c.loop-c.invariant c.loop-c-test.true c.in_err-row.ensures)

pub loop-c-preserved : goal.loop-c-preserved
loop-c-preserved c =
    rw (c.unwrap_or.ensures, c.unwrap_or-in-loop-c.ensures, c.unwrap_or-in-loop-c-2.ensures)
    (depot-turn-on c.args.sizes.trainees c.args.base c.loop-c.invariant c.loop-c-test.true _ c.in_ok-row.row _ c.in_ok-row.ensures)

pub returns-clause-read : goal.returns-clause-read
returns-clause-read c = depot-done c.args.sizes.trainees c.args.base c.loop-c.invariant c.loop-c-test.false
