-- The end line, and then whether anything is left.
use Rattle.std.proofs.Common.{rules}
use Rattle.std.proofs.lemmas.Result.{err_from_is_err_and}
use Rattle.fields.specs.Leaves.{StepRead}
use Rattle.ruling_text.proofs.Lined.{lined, passed}
use Rattle.ruling_text.proofs.Conclusions.{finish-no-end, finish-extra, finish-here}
use Rattle.ruling_text.proofs.finish_at.Goals as goal

pub returns-in_err-map_err : goal.returns-in_err-map_err
returns-in_err-map_err c =
    let p = err_from_is_err_and c.from_residual.result c.from_residual.ensures.1 in
    let t = lined c.args.l (StepRead _ _) c.in_err-map_err.ensures.cases (λ w h. search rules) c.end_line_at.ensures (λ w h. h) in
    rw (p.1, p.2, ← t.on) (finish-no-end c.args.l _ t.refused)

pub returns-then-not-is_empty : goal.returns-then-not-is_empty
returns-then-not-is_empty c =
    let g = passed (StepRead _ _) c.in_ok-map_err.ensures.cases (λ w h. h) c.end_line_at.ensures in
    finish-extra c.args.l _ g (search rules)

pub returns : goal.returns
returns c =
    let g = passed (StepRead _ _) c.in_ok-map_err.ensures.cases (λ w h. h) c.end_line_at.ensures in
    finish-here c.args.l _ g (search rules)
