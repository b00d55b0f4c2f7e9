-- The front of what is laid over zeros is the left table. Assumes nothing.
use native.Mathlib.Omega.{arith}
use Rattle.checker.proofs.Loops.{laid-front}
use Rattle.checker.proofs.left_table.Goals as goal

pub returns : goal.returns
returns c = laid-front _ _ _ _ _ _ c.lay_left.ensures (omega (arith, c.args.rows.now.market.full.few_trainees))
