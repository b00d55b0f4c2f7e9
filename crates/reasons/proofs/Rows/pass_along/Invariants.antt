-- The loop keeps the count and the smallest of the part passed so far.
use Prim.Native.Nat.{◌+◌, ◌≤◌}
use mathlib.Core.Path.{◌≡◌}
use lib.ListN.{drop}
use Rattle.reasons.specs.Scans.{count_in, least_in}
use Rattle.reasons.specs.Reasons.{settled}
use Rattle.reasons.proofs.Counts.{number_found, Found}
use Rattle.reasons.proofs.Rows.pass_along.Given as goal

abbrev pub invariant-loop-k : goal.invariant-loop-k
invariant-loop-k l = let h = l.self.market.heads.now in let e = l.self.market.entries.now in let rows = l.self.marks.now in record {
  few : l.settled ≤ l.k-index;
  counted : count_in (settled h e rows 1 l.j) l.part ≡ l.settled + count_in (settled h e rows 1 l.j) (drop l.k-index l.part);
  least : least_in (settled h e rows 0 l.j) l.part 0 ≡ least_in (settled h e rows 0 l.j) (drop l.k-index l.part) (number_found l.passed);
  found : Found l.passed;
}
