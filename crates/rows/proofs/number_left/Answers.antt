-- At most 64 places are marked, so the difference doesn't wrap. Assumes nothing.
use native.Mathlib.Omega.{arith}
use Rattle.rows.proofs.Numbers.{number-at-most}
use Rattle.rows.proofs.number_left.Goals as goal

pub overflow_sub-result : goal.overflow_sub-result
overflow_sub-result c = omega (arith, c.number_marked.ensures, number-at-most c.args.row)
