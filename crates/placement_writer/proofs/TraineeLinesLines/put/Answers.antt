-- The parts of the line one after the other.
use Rattle.fields.proofs.Pens.{wrote_then}
use Rattle.placement_text.specs.Writer.{write_trainee}
use Rattle.placement_writer.proofs.TraineeLinesLines.put.Goals as goal

pub returns : goal.returns
unfolding write_trainee
returns c = wrote_then (wrote_then (wrote_then c.word.ensures c.number.ensures) (rw c.trainee_at.ensures at c.put_list.ensures)) c.byte.ensures
