-- Either the one digit is put, or nothing.
use native.Mathlib.Omega.{arith}
use mathlib.Core.Path.{sym}
use Rattle.fields.proofs.Puts.{last-there, last-none}
use Rattle.fields.proofs.Pens.{wrote_as, wrote_none}
use Rattle.fields.proofs.pen.Pen.last_digit.Goals as goal

pub byte-requires : goal.byte-requires
byte-requires c = rw (last-there c.args.q c.if-q-gt0.true) at c.requires

pub returns-then-q-gt0 : goal.returns-then-q-gt0
returns-then-q-gt0 c = wrote_as (sym (last-there c.args.q c.if-q-gt0.true)) c.byte.ensures

pub returns-else-q-gt0 : goal.returns-else-q-gt0
returns-else-q-gt0 c = wrote_as (sym (last-none c.args.q (omega arith))) (wrote_none c.args.self.now)
