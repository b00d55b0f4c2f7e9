-- The trailing zeros of the complement are the marks before the first place left. Assumes nothing.
use native.Mathlib.Omega.{arith}
use Rattle.rows.specs.Left.{first_place_left}
use Rattle.rows.specs.Marks.{marks}
use Rattle.rows.proofs.Digits.{trailing-first}
use Rattle.rows.proofs.first_left.Goals as goal

pub returns : goal.returns
unfolding first_place_left marks
returns c = trailing-first 64 c.args.row (omega arith)
