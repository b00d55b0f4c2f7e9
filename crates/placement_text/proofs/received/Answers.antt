-- The field's word is `?`, or the number that it is.
use mathlib.Core.Path.{◌≡◌, sym, ap, ◌∙◌}
use mathlib.Core.Bool.{false}
use lib.Pointwise.{pointwise}
use Rattle.std.specs.Prelude.{nat_eq}
use Rattle.std.proofs.lemmas.Result.{err_from_is_err_and}
use Rattle.fields.specs.Bytes.{same}
use Rattle.fields.proofs.Ways.{same_pointwise}
use Rattle.placement_text.specs.Words.{word_?}
use Rattle.placement_text.proofs.Ways.{no-number, a-number, received-mark, received-wrong, received-large, received_is}
use Rattle.placement_text.proofs.received.Goals as goal

pub returns-then-eq : goal.returns-then-eq
returns-then-eq c =
    received-mark c.args.k c.args.hi _ c.in_ok-w.ensures.read
    (sym (same_pointwise _ word_?) ∙ ap (pointwise nat_eq c.in_ok-w.w.now) (sym c.as_slice.ensures) ∙ sym c.eq.ensures ∙ c.if-eq.true)

pub returns-in_err-v : goal.returns-in_err-v
returns-in_err-v c =
    let p = err_from_is_err_and c.from_residual-in_err-v.result c.from_residual-in_err-v.ensures.1 in
    let m : same c.in_ok-w.w.now word_? ≡ false = sym (same_pointwise _ word_?) ∙ ap (pointwise nat_eq c.in_ok-w.w.now) (sym c.as_slice.ensures) ∙ sym c.eq.ensures ∙ c.if-eq.false in
    let n = no-number _ _ c.number_in.ensures c.ok_or.ensures.value c.in_err-v.was in
    rw (p.1, p.2, n.1) (received-wrong c.args.k c.args.hi _ c.in_ok-w.ensures.read m n.0)

pub returns-then-hi-v : goal.returns-then-hi-v
returns-then-hi-v c =
    let m : same c.in_ok-w.w.now word_? ≡ false = sym (same_pointwise _ word_?) ∙ ap (pointwise nat_eq c.in_ok-w.w.now) (sym c.as_slice.ensures) ∙ sym c.eq.ensures ∙ c.if-eq.false in
    let n = a-number _ _ c.number_in.ensures c.ok_or.ensures.value c.in_ok-v.was in
    received-large c.args.k c.args.hi _ c.in_ok-w.ensures.read m n c.if-hi-v.true

pub returns : goal.returns
returns c =
    let m : same c.in_ok-w.w.now word_? ≡ false = sym (same_pointwise _ word_?) ∙ ap (pointwise nat_eq c.in_ok-w.w.now) (sym c.as_slice.ensures) ∙ sym c.eq.ensures ∙ c.if-eq.false in
    let n = a-number _ _ c.number_in.ensures c.ok_or.ensures.value c.in_ok-v.was in
    received_is c.args.k c.args.hi _ c.in_ok-w.ensures.read m n c.if-hi-v.false
