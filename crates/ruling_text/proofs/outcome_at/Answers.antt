-- The first word says whether a table follows.
use Rattle.std.proofs.Common.{rules}
use Rattle.std.proofs.lemmas.Result.{err_from_is_err_and}
use Rattle.ruling_text.proofs.Conclusions.{outcome-none, outcome-no-table, outcome-table}
use Rattle.ruling_text.proofs.outcome_at.Goals as goal

pub returns-in-Ok : goal.returns-in-Ok
returns-in-Ok c = outcome-none c.args.sizes.trainees c.args.sizes.strikes _ c.in-Ok.ensures.read c.args.table.now _ c.none_at.result c.map_err.result (search rules) c.none_at.ensures

pub returns-in_err-table_at-in-Err : goal.returns-in_err-table_at-in-Err
returns-in_err-table_at-in-Err c =
    let p = err_from_is_err_and c.from_residual.result c.from_residual.ensures.1 in
    rw (p.1, p.2) (outcome-no-table c.args.sizes.trainees c.args.sizes.strikes _ c.in-Err.ensures.read (rw c.in-Err.ensures.kept at c.in_err-table_at-in-Err.ensures))

pub returns-in_ok-table_at-in-Err : goal.returns-in_ok-table_at-in-Err
returns-in_ok-table_at-in-Err c = outcome-table c.args.sizes.trainees c.args.sizes.strikes _ c.in-Err.ensures.read (rw c.in-Err.ensures.kept at c.in_ok-table_at-in-Err.ensures)
