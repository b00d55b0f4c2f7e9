-- A number of 1 to 4, and then a witness in the range that this number gives.
use Rattle.ruling_text.proofs.Ways.{reason-is}
use Rattle.ruling_text.proofs.reason_at.Goals as goal

pub returns : goal.returns
returns c = reason-is c.args.n _ c.in_ok-number.ensures.read (rw (← c.low_witness.ensures, ← c.high_witness.ensures) c.in_ok-witness.ensures.read)
