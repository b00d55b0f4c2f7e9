-- Each test decides whether the word leads and is short; then its digits decide.
use Prim.Native.Nat.{◌≤◌}
use mathlib.Core.Path.{◌≡◌, sym, ap, ◌∙◌}
use mathlib.Core.Logic.{◌⊎◌, inl, inr}
use native.Mathlib.Omega.{arith}
use lib.ListN.{length, get_or}
use Rattle.fields.specs.Leaves.{num_of}
use Rattle.fields.proofs.Ways.{number-empty, number-long, number-zero, number_digits}
use Rattle.fields.proofs.number_in.Goals as goal
use Rattle.fields.proofs.number_in.Goals.{then-n-eq0-via-then-n-eq0, then-n-eq0-via-else-n-eq0+then-n-gt5, else-n-gt1-via-then-n-gt1+else-word-eq48, else-n-gt1-via-else-n-gt1}

pub returns-then-n-eq0 : goal.returns-then-n-eq0
returns-then-n-eq0 c =
    let w = c.args.word.now in
    sym (ap num_of (elim c.then-n-eq0.branch [ then-n-eq0-via-then-n-eq0 b ↦ number-empty w b.if-n-eq0.true | then-n-eq0-via-else-n-eq0+then-n-gt5 b ↦ number-long w b.if-n-gt5.true ]))

pub returns-then-word-eq48 : goal.returns-then-word-eq48
returns-then-word-eq48 c = sym (ap num_of (number-zero c.args.word.now c.if-n-gt1.true c.if-word-eq48.true))

pub returns : goal.returns
returns c =
    let w = c.args.word.now in
    let lead : (length w ≤ 1) ⊎ (get_or w 0 0 ≡ 48 → ⊥) =
    elim c.else-n-gt1.branch [ else-n-gt1-via-then-n-gt1+else-word-eq48 b ↦ inr b.if-word-eq48.false | else-n-gt1-via-else-n-gt1 b ↦ inl b.if-n-gt1.false ] in
    c.value_in.ensures ∙ sym (ap num_of (number_digits w (omega arith) c.if-n-gt5.false lead))
