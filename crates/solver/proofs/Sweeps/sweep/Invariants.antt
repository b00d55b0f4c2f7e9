-- After the trainees below i the record is that of the rows below i.
use Rattle.meaning.specs.Solver.{rows_by}
use Rattle.ranks.specs.View.{n_of, wishes_of}
use Rattle.solver.specs.Going.{GoingOn, visit_by}
use Rattle.solver.specs.Sweeping.{record_of, Same}
use mathlib.Core.Path.{◌≡◌}
use Prim.Native.Nat.{◌-◌, ◌+◌}
use Rattle.solver.proofs.Sweeps.sweep.Given as goal

abbrev pub invariant-loop-i : goal.invariant-loop-i
invariant-loop-i l = let s = l.initial.self.standing.now in let n = n_of s.market.heads.now in let lists = wishes_of s.market.heads.now s.market.entries.now in record {
  same : Same l.initial.self l.self;
  going : GoingOn s l.self.rows.now l.self.cells.now l.self.used;
  is : rows_by (visit_by s) lists n 1 (record_of l.initial.self) ≡ rows_by (visit_by s) lists (n + 1 - l.i) l.i (record_of l.self);
}
