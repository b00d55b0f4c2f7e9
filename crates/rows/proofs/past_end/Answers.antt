-- Below 64 the complement of the ones before `len` has the ones from `len` on; from 64 on there are none. Assumes nothing.
use Rattle.rows.proofs.Coded.{complement-past-end, zero-past-end}
use Rattle.rows.proofs.past_end.Goals as goal

pub returns-then-len-lt64 : goal.returns-then-len-lt64
returns-then-len-lt64 c = complement-past-end c.args.len c.if-len-lt64.true

pub returns-else-len-lt64 : goal.returns-else-len-lt64
returns-else-len-lt64 c = zero-past-end c.args.len c.if-len-lt64.false
