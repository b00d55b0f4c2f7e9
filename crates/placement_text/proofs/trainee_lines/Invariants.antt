-- The invariant: what is left, read after the lists so far, is the reading of all lines; their heads and entries stand in the cells.
use Rattle.placement_text.proofs.Turns.{TraineeTurn}
use Rattle.placement_text.proofs.trainee_lines.Given as goal

abbrev pub invariant-loop-c : goal.invariant-loop-c
invariant-loop-c l = TraineeTurn l.sizes.depots l.fn.text.rest.now l.sizes.trainees l.initial.h l.initial.t l.h l.t l.c l.total l.after.rest.now
