-- The invariant: what is left, read after the pairs so far, is the reading of all lines; their cells stand behind the first.
use Prim.Native.Nat.{◌-◌}
use Rattle.placement_text.proofs.Below.{PairsTurn}
use Rattle.placement_text.proofs.order_lines.Given as goal

abbrev pub invariant-loop-pair : goal.invariant-loop-pair
invariant-loop-pair l = PairsTurn l.sizes.trainees l.sizes.depots l.l l.fn.text.rest.now l.initial.o l.o l.c l.after.rest.now

abbrev pub decreases-loop-pair : goal.decreases-loop-pair
decreases-loop-pair l = 1024 - l.c
