-- The sizes are tried, then the used cells, and then the text is put.
use mathlib.Core.Path.{sym, ◌∙◌}
use native.Mathlib.Omega.{arith}
use Rattle.std.proofs.lemmas.Result.{err_from_is_err_and}
use Rattle.tables.specs.Decode.{placement_of}
use Rattle.tables.proofs.Same.{same-of, same-sized, same-held, same-on}
use Rattle.placement_writer.proofs.Held.{held-is}
use Rattle.placement_writer.proofs.Ways.{answer-short, answer-short-out, answer-unread, answer-written}
use Rattle.placement_writer.proofs.write_placement.Goals as goal

pub returns-in_err-lent : goal.returns-in_err-lent
returns-in_err-lent c =
    let a = c.args in
    let p = err_from_is_err_and c.from_residual.result c.from_residual.ensures.1 in
    rw (p.1, p.2, c.in_err-lent.ensures.0) (answer-short a.heads.now a.entries.now a.orders.now a.out.now c.in_err-lent.ensures.1)

pub returns-then-out-lt65536 : goal.returns-then-out-lt65536
returns-then-out-lt65536 c =
    let a = c.args in
    rw c.from.ensures (answer-short-out a.heads.now a.entries.now a.orders.now a.out.now (same-sized c.in_ok-lent.ensures c.in_ok-lent.lent.sized) c.if-out-lt65536.true)

pub returns-in_err-held : goal.returns-in_err-held
returns-in_err-held c =
    let a = c.args in
    let p = err_from_is_err_and c.from_residual-in_err-held.result c.from_residual-in_err-held.ensures.1 in
    let s = c.in_ok-lent.ensures in
    rw (p.1, p.2, c.in_err-held.ensures.0) (answer-unread a.heads.now a.entries.now a.orders.now a.out.now (same-sized s c.in_ok-lent.lent.sized) (omega arith) (same-held s c.in_err-held.ensures.1))

pub put_text-requires : goal.put_text-requires
put_text-requires c = (c.in_ok-held.held.held, omega arith)

pub returns : goal.returns
returns c =
    let a = c.args in
    let t = c.in_ok-held.held in
    let s = c.in_ok-lent.ensures in
    let H = held-is t.heads.now t.entries.now t.orders.now t.held in
    answer-written a.heads.now a.entries.now a.orders.now a.out.now (same-sized s c.in_ok-lent.lent.sized) (omega arith)
    H.it (sym (same-of (same-on s c.in_ok-held.ensures) placement_of) ∙ H.decoded) (c.put_text.ensures H.it H.decoded)
