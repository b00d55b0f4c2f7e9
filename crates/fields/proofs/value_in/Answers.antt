-- A digit goes over to the value, and another byte ends the search for one.
use Prim.Native.Nat.{◌-◌}
use mathlib.Core.Path.{refl, sym, ap, ◌∙◌}
use mathlib.Core.Logic.{inl, inr}
use lib.ListN.{get_or}
use native.Mathlib.Omega.{arith}
use Rattle.fields.specs.Leaves.{num_of}
use Rattle.fields.proofs.Ways.{ten_to-small, value-start, value_grows, value-digit, value-other, value-all}
use Rattle.fields.proofs.value_in.Goals as goal
use Rattle.fields.proofs.value_in.Goals.{then-d-lt48-via-then-d-lt48, then-d-lt48-via-else-d-lt48+then-d-gt57}

pub loop-d-init : goal.loop-d-init
loop-d-init c = (value-start, refl)

pub returns-then-d-lt48 : goal.returns-then-d-lt48
returns-then-d-lt48 c =
    let l = c.loop-d in
    let w = c.args.word.now in
    sym
    (ap num_of
    (l.invariant.1 ∙ value-other w l.v l.d-index c.loop-d-test.true (elim c.then-d-lt48.branch [ then-d-lt48-via-then-d-lt48 b ↦ inl b.if-d-lt48.true | then-d-lt48-via-else-d-lt48+then-d-gt57 b ↦ inr b.if-d-gt57.true ])))

pub overflow_mul-v : goal.overflow_mul-v
overflow_mul-v c = omega (arith, ten_to-small c.loop-d.d-index (omega arith))

pub overflow_add-v : goal.overflow_add-v
overflow_add-v c = omega (arith, ten_to-small c.loop-d.d-index (omega arith))

pub loop-d-preserved : goal.loop-d-preserved
loop-d-preserved c =
    let l = c.loop-d in
    let w = c.args.word.now in
    (value_grows l.d-index l.v (get_or w l.d-index 0 - 48) l.invariant.0 (omega arith), l.invariant.1 ∙ value-digit w l.v l.d-index (omega arith) (omega arith) (omega arith))

pub returns : goal.returns
returns c =
    let l = c.loop-d in
    sym (ap num_of (l.invariant.1 ∙ value-all c.args.word.now l.v l.d-index (omega arith)))
