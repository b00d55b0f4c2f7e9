-- The invariant: reading from the start is reading from here, and the cells hold the strikes passed.
use Rattle.meaning.specs.Answers.{strike_numbers}
use Rattle.ruling_text.specs.Reader.{strike_line}
use Rattle.ruling_text.proofs.Turns.{Turn}
use Rattle.ruling_text.proofs.strikes_at.Given as goal

abbrev pub invariant-loop-c : goal.invariant-loop-c
invariant-loop-c l = Turn (strike_line l.sizes.trainees) strike_numbers 4 l.initial.text.rest.now l.sizes.strikes l.initial.cells l.cells l.c-counter l.text.rest.now
