-- The record grows with each sweep that strikes and never past the mutual pairs, so the sweeps end where the definition's do.
use Rattle.meaning.specs.Solver.{sweeps_by}
use Rattle.meaning.specs.Strikes.{mutual_pairs}
use Rattle.ranks.specs.View.{n_of, wishes_of, market_of}
use Rattle.solver.specs.Going.{GoingOn, visit_by}
use Rattle.solver.specs.Sweeping.{record_of, Same}
use Rattle.solver.proofs.Turns.{Fuel}
use mathlib.Core.List.{[]}
use Prim.Native.Nat.{suc, ◌-◌}
use lib.ListN.{length}
use Rattle.solver.proofs.Sweeps.sweep_all.Given as goal

abbrev pub invariant-loop-self : goal.invariant-loop-self
invariant-loop-self l = let s = l.initial.self.standing.now in let h = s.market.heads.now in let e = s.market.entries.now in record {
  same : Same l.initial.self l.self;
  going : GoingOn s l.self.rows.now l.self.cells.now l.self.used;
  fuel : Fuel h e s.holds.now s.bars.now (sweeps_by (visit_by s) length (wishes_of h e) (n_of h) (suc (mutual_pairs (market_of h e))) []) (record_of l.self);
}

abbrev pub decreases-loop-self : goal.decreases-loop-self
decreases-loop-self l = let s = l.initial.self.standing.now in mutual_pairs (market_of s.market.heads.now s.market.entries.now) - l.self.used
