-- A receipt that says received comes with the part's place in the entries; any other says that the empty part is handed back.
use Prim.Native.Nat.{◌+◌, ◌≤◌, ◌<◌}
use mathlib.Core.Path.{sym, ap, ◌∙◌, subst}
use lib.ListN.{length, get_or}
use Rattle.tables.specs.Cells.{part}
use Rattle.tables.proofs.Receipts.{received-part, other-part, ok-same}
use Rattle.std.specs.Prelude.{Ok}
use Rattle.tables.proofs.trainee_list.Goals as goal

pub trainee_at-requires : goal.trainee_at-requires
trainee_at-requires c =
    let a = c.args in
    (received-part a.heads.now a.entries.now a.orders.now a.i (sym c.trainee_receipt.ensures ∙ c.in-Ok.is ∙ ap Ok c.in-Received.is)).small

pub list_at-requires : goal.list_at-requires
list_at-requires c =
    let a = c.args in
    let p = received-part a.heads.now a.entries.now a.orders.now a.i (sym c.trainee_receipt.ensures ∙ c.in-Ok.is ∙ ap Ok c.in-Received.is) in
    let z = c.trainee_at.ensures in
    subst (λ at. (at + 1 < length a.heads.now) × (get_or a.heads.now at 0 + get_or a.heads.now (at + 1) 0 ≤ length a.entries.now)) (sym z) (p.cells, p.seen.fits)

pub returns-in-Received : goal.returns-in-Received
returns-in-Received c =
    let a = c.args in
    let r = received-part a.heads.now a.entries.now a.orders.now a.i (sym c.trainee_receipt.ensures ∙ c.in-Ok.is ∙ ap Ok c.in-Received.is) in
    c.list_at.ensures ∙ ap (part a.heads.now a.entries.now) c.trainee_at.ensures ∙ r.seen.is

pub returns-in_default : goal.returns-in_default
returns-in_default c =
    let a = c.args in
    other-part a.heads.now a.entries.now a.orders.now a.i (λ q. c.in_default.not-Ok _ (c.trainee_receipt.ensures ∙ q))

pub returns-in_default-receipt : goal.returns-in_default-receipt
returns-in_default-receipt c =
    let a = c.args in
    other-part a.heads.now a.entries.now a.orders.now a.i (λ q. c.in_default-receipt.not-Received (ok-same (sym c.in-Ok.is ∙ c.trainee_receipt.ensures ∙ q)))
