-- The bit shifted down and masked is the binary digit at that place. Assumes nothing.
use Prim.Native.Nat.{ℕ, ◌^◌, ◌/◌}
use mathlib.Core.Path.{ap, sym, ◌∙◌}
use lib.Dec.{eqb}
use lib.Bits.{and_mask}
use Rattle.rows.specs.Marks.{marks}
use Rattle.rows.proofs.Digits.{lowest-at}
use Rattle.rows.proofs.marked.Goals as goal

pub returns : goal.returns
unfolding marks
returns c = ap (λ (x : ℕ). eqb x 1) (and_mask (c.args.row / 2 ^ c.args.p) 1) ∙ sym (lowest-at 64 c.args.p c.args.row c.requires)
