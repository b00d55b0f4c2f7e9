-- The invariant: reading from the start is reading from here, and the table holds the cells passed.
use Rattle.ruling_text.specs.Reader.{cell_line}
use Rattle.ruling_text.specs.Code.{cell_numbers}
use Rattle.ruling_text.proofs.Turns.{Turn}
use Rattle.ruling_text.proofs.table_at.Given as goal

abbrev pub invariant-loop-c : goal.invariant-loop-c
invariant-loop-c l = Turn (cell_line l.fn.sizes.strikes) cell_numbers 1 l.initial.text.rest.now l.fn.sizes.trainees l.initial.table l.table l.c-counter l.text.rest.now
