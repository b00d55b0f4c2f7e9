-- The outcome says on which line the end line stands.
use Rattle.std.proofs.lemmas.Result.{err_from_is_err_and}
use Rattle.ruling_text.proofs.Conclusions.{conclusion-no-end, conclusion-ends}
use Rattle.ruling_text.proofs.end_at.Goals as goal

pub returns-in_err-finish_at : goal.returns-in_err-finish_at
returns-in_err-finish_at c =
    let p = err_from_is_err_and c.from_residual-in_err-finish_at.result c.from_residual-in_err-finish_at.ensures.1 in
    rw (p.1, p.2) (conclusion-no-end c.args.sizes.trainees c.args.sizes.strikes _ c.in_ok-ending.ensures c.placed_or.ensures c.in_err-finish_at.ensures)

pub returns : goal.returns
returns c = conclusion-ends c.args.sizes.trainees c.args.sizes.strikes _ c.in_ok-ending.ensures c.placed_or.ensures c.in_ok-finish_at.ensures
