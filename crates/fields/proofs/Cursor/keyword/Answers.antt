-- The word at the front is compared with w.
use Prim.Native.Nat.{ℕ}
use mathlib.Core.Path.{sym, ap, ◌∙◌}
use mathlib.Core.Bool.{not}
use mathlib.Core.List.{List}
use Rattle.fields.specs.Bytes.{same}
use Rattle.fields.specs.Reader.{got}
use Rattle.fields.proofs.Ways.{same_pointwise, keyword-is, keyword-not}
use Rattle.fields.proofs.Cursor.keyword.Goals as goal

pub returns-then-ne-clause-read : goal.returns-then-ne-clause-read
returns-then-ne-clause-read c =
    let w = c.args.w.now in
    keyword-not _ w (ap (λ (x : List ℕ). not (same x w)) (sym c.word.ensures.word) ∙ ap not (sym (same_pointwise _ w)) ∙ sym c.ne.ensures ∙ c.if-ne.true)

pub returns-clause-read : goal.returns-clause-read
returns-clause-read c =
    let w = c.args.w.now in
    keyword-is _ w (ap (λ (x : List ℕ). not (same x w)) (sym c.word.ensures.word) ∙ ap not (sym (same_pointwise _ w)) ∙ sym c.ne.ensures ∙ c.if-ne.false)
    ∙ ap (got tt) (sym c.word.ensures.rest)
