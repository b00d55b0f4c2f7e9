-- The ones of a row are its marks. Assumes nothing.
use native.Mathlib.Omega.{arith}
use Rattle.rows.specs.Left.{number_marked}
use Rattle.rows.specs.Marks.{marks}
use Rattle.rows.proofs.Digits.{ones-count}
use Rattle.rows.proofs.number_marked.Goals as goal

pub returns : goal.returns
unfolding number_marked marks
returns c = ones-count 64 c.args.row (omega arith)
