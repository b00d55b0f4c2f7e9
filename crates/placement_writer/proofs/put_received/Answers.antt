-- The mark, or the number.
use mathlib.Core.Path.{sym, ap, ◌∙◌}
use Rattle.fields.proofs.Pens.{wrote_as}
use Rattle.placement_text.specs.Writer.{write_received}
use Rattle.placement_writer.specs.Held.{received_in}
use Rattle.placement_writer.proofs.Lines.{missing, given}
use Rattle.placement_writer.proofs.put_received.Goals as goal

pub number-requires : goal.number-requires
number-requires c = rw (c.in-Some.is, ← given c.in-Some.w) at c.requires.1

pub word-requires : goal.word-requires
word-requires c = rw (c.in-None.is, ← missing) at c.requires.1

pub returns-in-Some : goal.returns-in-Some
returns-in-Some c = wrote_as (given _ ∙ sym (ap (λ v. write_received (received_in v)) c.in-Some.is)) c.number.ensures

pub returns-in-None : goal.returns-in-None
returns-in-None c = wrote_as (missing ∙ sym (ap (λ v. write_received (received_in v)) c.in-None.is)) c.word.ensures
