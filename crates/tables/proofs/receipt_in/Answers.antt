-- The number's range decides first, then the length cell.
use Prim.Native.Nat.{◌+◌}
use mathlib.Core.Path.{sym, ap, ◌∙◌}
use native.Mathlib.Omega.{arith}
use lib.ListN.{get_or}
use Rattle.tables.specs.Decode.{within}
use Rattle.tables.proofs.Seen.{sides-seen}
use Rattle.tables.proofs.Tests.{within_in, cell-missing, cell-given}
use Rattle.tables.proofs.Receipts.{receipt-out, receipt-not-received, receipt-received}
use Rattle.tables.proofs.receipt_in.Goals as goal

pub returns-then-not-in_range : goal.returns-then-not-in_range
returns-then-not-in_range c =
    λ e b q.
    let a = c.args in
    let h = a.heads.now in
    receipt-out h e b (sides-seen h e b q) a.i (sym (c.in_range.ensures ∙ ap (λ n. within n a.i) c.trainees_of.ensures) ∙ c.if-not-in_range.true)

pub trainee_at-requires : goal.trainee_at-requires
trainee_at-requires c =
    let r = c.requires in
    let b = within_in _ _ (sym c.in_range.ensures ∙ c.if-not-in_range.false) in
    omega (arith, b.high)

pub length_of-requires : goal.length_of-requires
length_of-requires c =
    let r = c.requires in
    let b = within_in _ _ (sym c.in_range.ensures ∙ c.if-not-in_range.false) in
    omega (arith, b.high)

pub returns-then-is_none : goal.returns-then-is_none
returns-then-is_none c =
    λ e b q.
    let a = c.args in
    let h = a.heads.now in
    receipt-not-received h e b (sides-seen h e b q) a.i (within_in _ _ (sym (c.in_range.ensures ∙ ap (λ n. within n a.i) c.trainees_of.ensures) ∙ c.if-not-in_range.false))
    (ap (λ x. get_or h (x + 1) 0) (sym c.trainee_at.ensures) ∙ cell-missing _ _ _ c.length_of.ensures c.is_none.ensures c.if-is_none.true)

pub returns : goal.returns
returns c =
    λ e b q.
    let a = c.args in
    let h = a.heads.now in
    receipt-received h e b (sides-seen h e b q) a.i (within_in _ _ (sym (c.in_range.ensures ∙ ap (λ n. within n a.i) c.trainees_of.ensures) ∙ c.if-not-in_range.false))
    (λ w. cell-given _ _ _ c.length_of.ensures c.is_none.ensures c.if-is_none.false (ap (λ x. get_or h (x + 1) 0) c.trainee_at.ensures ∙ w))
