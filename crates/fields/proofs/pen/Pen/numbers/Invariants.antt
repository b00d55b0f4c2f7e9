-- The invariant: what is left to put is what the numbers from the index on are written as.
use lib.ListN.{drop}
use Rattle.fields.specs.Writer.{write_numbers}
use Rattle.fields.proofs.Pens.{Going}
use Rattle.fields.proofs.pen.Pen.numbers.Given as goal

abbrev pub invariant-loop-v : goal.invariant-loop-v
invariant-loop-v l = Going l.initial.self l.self (write_numbers l.vs) (write_numbers (drop l.v-index l.vs))
