-- What the answers of this crate say. Assumes nothing.
use Rattle.std.specs.Prelude.{ℕ, Option as Chosen, Some, None}
use Rattle.std.proofs.Math.Option.{Option, none, some}
use Rattle.reasons.specs.declared.Far.{Far}

unfoldable pub choice_of : {A : Type 0} → Chosen A → Option A
choice_of (Some r) = some r
choice_of None = none

-- 0 not up to the depot, 1 above it, 2 down to it
abbrev pub far_number : Far → ℕ
far_number Far.Short = 0
far_number Far.Above = 1
far_number Far.Down = 2
