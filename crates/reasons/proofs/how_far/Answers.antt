-- Down to the depot is also above it, so two comparisons part three cases.
use native.Mathlib.Omega.{arith}
use Prim.Native.Nat.{◌+◌}
use Rattle.reasons.proofs.Steps.{far-down, far-above, far-not}
use Rattle.reasons.proofs.how_far.Goals as goal

pub returns-then-p-first : goal.returns-then-p-first
returns-then-p-first c = far-down (c.args.p + 1) _ (omega arith)

pub returns-then-p-first-2 : goal.returns-then-p-first-2
returns-then-p-first-2 c = far-above (c.args.p + 1) _ (omega arith) (omega arith)

pub returns : goal.returns
returns c = far-not (c.args.p + 1) _ (omega arith)
