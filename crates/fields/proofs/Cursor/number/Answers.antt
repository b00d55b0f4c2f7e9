-- The two ends of the range.
use mathlib.Core.Logic.{inl, inr}
use native.Mathlib.Omega.{arith}
use Rattle.fields.proofs.Ways.{number-outside, number_is}
use Rattle.fields.proofs.Cursor.number.Goals as goal
use Rattle.fields.proofs.Cursor.number.Goals.{then-v-lo-via-then-v-lo, then-v-lo-via-else-v-lo+then-hi-v}

pub returns-then-v-lo-clause-read : goal.returns-then-v-lo-clause-read
returns-then-v-lo-clause-read c = number-outside c.args.k _ c.args.lo c.args.hi c.in_ok-v.ensures.read (elim c.then-v-lo.branch [ then-v-lo-via-then-v-lo w ↦ inl w.if-v-lo.true | then-v-lo-via-else-v-lo+then-hi-v w ↦ inr w.if-hi-v.true ])

pub returns-clause-read : goal.returns-clause-read
returns-clause-read c = number_is c.args.k _ c.args.lo c.args.hi c.in_ok-v.ensures.read (omega arith) (omega arith)
