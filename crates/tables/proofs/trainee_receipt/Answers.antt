-- The refusals are tried in the definition's order; past them the sides decide.
use mathlib.Core.Path.{sym, ap, ◌∙◌}
use Rattle.std.proofs.lemmas.Result.{err_from_is_err_and}
use Rattle.tables.specs.Answers.{receipt_of, trainee_receipt}
use Rattle.tables.proofs.Same.{same-of, same-sized, same-held, same-on}
use Rattle.tables.proofs.Lines.{held-room}
use Rattle.tables.proofs.Receipts.{receipt-short, receipt-unread, held-sides}
use Rattle.tables.proofs.trainee_receipt.Goals as goal

pub returns-in_err-lent : goal.returns-in_err-lent
returns-in_err-lent c =
    let a = c.args in
    let p = err_from_is_err_and c.from_residual.result c.from_residual.ensures.1 in
    rw (p.1, p.2, c.in_err-lent.ensures.0) (receipt-short a.heads.now a.entries.now a.orders.now a.i c.in_err-lent.ensures.1)

pub returns-in_err-held : goal.returns-in_err-held
returns-in_err-held c =
    let a = c.args in
    let p = err_from_is_err_and c.from_residual-in_err-held.result c.from_residual-in_err-held.ensures.1 in
    let s = c.in_ok-lent.ensures in
    rw (p.1, p.2, c.in_err-held.ensures.0) (receipt-unread a.heads.now a.entries.now a.orders.now a.i (same-sized s c.in_ok-lent.lent.sized) (same-held s c.in_err-held.ensures.1))

pub receipt_in-requires : goal.receipt_in-requires
receipt_in-requires c = let t = c.in_ok-held.held in held-room t.heads.now t.entries.now t.orders.now t.held

pub returns : goal.returns
returns c =
    let i = c.args.i in
    let t = c.in_ok-held.held in
    let g = held-sides t.heads.now t.entries.now t.orders.now i t.sized t.held in
    c.receipt_in.ensures t.entries.now g.sides g.decoded ∙ ap receipt_of (sym g.by)
    ∙ same-of (same-on c.in_ok-lent.ensures c.in_ok-held.ensures) (λ h e o. trainee_receipt h e o i)
