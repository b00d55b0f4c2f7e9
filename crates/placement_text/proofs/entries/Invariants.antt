-- The invariant: what is left, read after the entries so far, is the reading of all; these stand in the cells, and the marks are theirs.
use Rattle.placement_text.proofs.Ways.{EntriesTurn}
use Rattle.placement_text.proofs.entries.Given as goal

abbrev pub invariant-loop-c : goal.invariant-loop-c
invariant-loop-c l = EntriesTurn l.fn.text.rest.now l.count l.k l.hi l.start l.initial.t l.t l.seen l.c l.text.rest.now
