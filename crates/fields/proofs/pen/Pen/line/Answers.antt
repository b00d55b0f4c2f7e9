-- The word, the numbers and the line's end.
use Rattle.fields.specs.Writer.{write_line}
use Rattle.fields.proofs.Pens.{wrote_then}
use Rattle.fields.proofs.pen.Pen.line.Goals as goal

pub returns : goal.returns
unfolding write_line
returns c = wrote_then (wrote_then c.word.ensures c.numbers.ensures) c.byte.ensures
