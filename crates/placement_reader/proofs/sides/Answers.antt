-- The trainees behind the first three cells, then the depots behind them; a refusal of either is the text's.
use native.Mathlib.Omega.{arith}
use Rattle.std.proofs.lemmas.Result.{err_from_is_err_and}
use Rattle.placement_reader.proofs.Fronts.{first_three}
use Rattle.placement_reader.proofs.Parts.{sides-refused, base-few, sides-refused-below, total-few, both-sides}
use Rattle.placement_reader.proofs.sides.Goals as goal

pub returns-in_err-base : goal.returns-in_err-base
returns-in_err-base c =
    let z = c.args.sizes in
    let p = err_from_is_err_and c.from_residual.result c.from_residual.ensures.1 in
    rw (p.1, p.2) (sides-refused z.trainees z.depots _ c.in_err-base.ensures.read)

pub depot_lines-requires : goal.depot_lines-requires
depot_lines-requires c =
    let z = c.args.sizes in
    let h = first_three c.args.h.now c.trainee_lines.new.h _ _ _ c.trainee_lines.auto.h in
    omega (arith, base-few z.trainees z.depots _ c.args.h.now c.in_ok-base.ensures.read)

pub returns-in_err-total : goal.returns-in_err-total
returns-in_err-total c =
    let z = c.args.sizes in
    let p = err_from_is_err_and c.from_residual-in_err-total.result c.from_residual-in_err-total.ensures.1 in
    rw (p.1, p.2) (sides-refused-below z.trainees z.depots _ c.args.h.now c.in_ok-base.ensures.read c.in_err-total.ensures.read)

pub overflow_add-result : goal.overflow_add-result
overflow_add-result c =
    let z = c.args.sizes in
    let b = base-few z.trainees z.depots _ c.args.h.now c.in_ok-base.ensures.read in
    let t = total-few z.trainees z.depots _ c.args.h.now c.in_ok-base.ensures.read c.in_ok-total.ensures.read in
    omega arith

pub returns : goal.returns
returns c =
    let z = c.args.sizes in
    both-sides z.trainees z.depots _ c.args.h.now c.in_ok-base.ensures.read c.in_ok-total.ensures.read
