-- A tab, and then the digits.
use Rattle.fields.specs.Writer.{write_number}
use Rattle.fields.proofs.Pens.{wrote_then}
use Rattle.fields.proofs.pen.Pen.number.Goals as goal

pub returns : goal.returns
unfolding write_number
returns c = wrote_then c.byte.ensures c.digits.ensures
