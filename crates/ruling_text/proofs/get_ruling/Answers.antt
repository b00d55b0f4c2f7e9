-- The length, the first line, and then the rest.
use Rattle.std.proofs.Common.{rules}
use Rattle.std.proofs.lemmas.Result.{err_from_is_err_and}
use Rattle.ruling_text.specs.Code.{HeadRead}
use Rattle.ruling_text.proofs.Lined.{lined, passed}
use Rattle.ruling_text.proofs.Whole.{text-long, text-no-head, text-read}
use Rattle.ruling_text.proofs.get_ruling.Goals as goal

pub returns-then-s-gt65536 : goal.returns-then-s-gt65536
returns-then-s-gt65536 c = text-long c.args.s.now c.if-s-gt65536.true

pub returns-in_err-sizes : goal.returns-in_err-sizes
returns-in_err-sizes c =
    let p = err_from_is_err_and c.from_residual.result c.from_residual.ensures.1 in
    let t = lined 1 (HeadRead _ _) c.in_err-sizes.ensures.cases (λ w h. search rules) c.head_at.ensures (λ w h. h) in
    rw (p.1, p.2, ← t.on) (text-no-head c.args.s.now c.if-s-gt65536.false t.refused)

pub returns : goal.returns
returns c =
    let a = c.args in
    let h = passed (HeadRead _ _) c.in_ok-sizes.ensures.cases (λ w h. h) c.head_at.ensures in
    text-read a.s.now c.if-s-gt65536.false c.in_ok-sizes.sizes h c.body_at.result a.table.now c.body_at.new.table a.cells.now c.body_at.new.cells c.body_at.ensures
