-- The invariant: what is left, read after the depots so far, is the reading of all lines; their heads and entries stand in the cells.
use Rattle.placement_text.proofs.Turns.{DepotTurn}
use Rattle.placement_text.proofs.depot_lines.Given as goal

abbrev pub invariant-loop-c : goal.invariant-loop-c
invariant-loop-c l = DepotTurn l.sizes.trainees l.base l.fn.text.rest.now l.sizes.depots l.initial.h l.initial.t l.h l.t l.c l.total l.after.rest.now
