-- The invariant: what is left, read after the lists so far, is the reading of all lines; their heads and entries stand in the cells.
use Rattle.std.proofs.lemmas.Result.{err_from_is_err_and}
use Rattle.placement_text.proofs.Turns.{trainee-start, trainee-done, trainee-turn-refused, trainee-turn-on}
use Rattle.placement_text.proofs.trainee_lines.Goals as goal

pub loop-c-init : goal.loop-c-init
loop-c-init c = trainee-start c.args.sizes.depots c.args.text.now.rest.now c.args.sizes.trainees c.args.h.now c.args.t.now

pub returns-in_err-list-clause-read : goal.returns-in_err-list-clause-read
returns-in_err-list-clause-read c =
    let p = err_from_is_err_and c.from_residual.result c.from_residual.ensures.1 in
    rw (p.1, p.2) (trainee-turn-refused c.args.sizes.depots c.loop-c.invariant c.loop-c-test.true c.in_err-list.ensures)

pub loop-c-preserved : goal.loop-c-preserved
loop-c-preserved c =
    rw (c.unwrap_or.ensures, c.unwrap_or-in-loop-c.ensures)
    (trainee-turn-on c.args.sizes.depots c.loop-c.invariant c.loop-c-test.true _ c.in_ok-list.list _ c.in_ok-list.ensures)

pub returns-clause-read : goal.returns-clause-read
returns-clause-read c = trainee-done c.args.sizes.depots c.loop-c.invariant c.loop-c-test.false
