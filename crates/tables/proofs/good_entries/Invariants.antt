-- Going back from the last entry, the marks are the entries behind, so each new one tells whether the list is good from there on.
use lib.ListN.{length}
use Prim.Native.Nat.{◌-◌}
use Rattle.tables.proofs.Entries.{Scanned}
use Rattle.tables.proofs.good_entries.Given as goal

abbrev pub invariant-loop-x : goal.invariant-loop-x
invariant-loop-x l = (goal.iterator-loop-x).can_next l.x-iterator × (goal.iterator-loop-x).is_finite l.x-iterator × Scanned l.hi l.list (length l.list - length l.yielded) l.marks
