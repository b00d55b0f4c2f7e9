-- The placement's tables first, then the table.
use mathlib.Core.Path.{refl, sym, ◌∙◌}
use borrow.Author.Tests.{le-leb, lt-leb}
use Rattle.std.proofs.lemmas.Result.{err_from_is_err_and}
use Rattle.tables.proofs.Same.{same-sized}
use Rattle.stability.proofs.Guards.{part-short, table-long}
use Rattle.stability.proofs.long_enough.Goals as goal

pub returns-in_err-lent : goal.returns-in_err-lent
returns-in_err-lent c =
    let p = err_from_is_err_and c.from_residual.result c.from_residual.ensures.1 in
    rw (p.1, p.2) (c.in_err-lent.ensures.0, sym (part-short _ _ _ _ c.in_err-lent.ensures.1))

pub returns-then-table-lt256 : goal.returns-then-table-lt256
returns-then-table-lt256 c = let s = c.in_ok-lent.ensures in
    (refl, sym (table-long _ _ _ _ (same-sized s c.in_ok-lent.lent.sized)) ∙ lt-leb _ _ c.if-table-lt256.true)

pub returns : goal.returns
returns c = let s = c.in_ok-lent.ensures in
    (s, sym (table-long _ _ _ _ (same-sized s c.in_ok-lent.lent.sized)) ∙ le-leb _ _ c.if-table-lt256.false)
