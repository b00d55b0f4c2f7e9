-- After the places below p the record is that of the places below p.
use Rattle.meaning.specs.Solver.{row_by}
use Rattle.ranks.specs.View.{wishes_of}
use Rattle.solver.specs.Going.{GoingOn, visit_by}
use Rattle.solver.specs.Sweeping.{record_of, Same}
use mathlib.Core.Path.{◌≡◌}
use lib.ListN.{drop}
use Rattle.solver.proofs.Sweeps.visit_list.Given as goal

abbrev pub invariant-loop-p : goal.invariant-loop-p
invariant-loop-p l = let s = l.initial.self.standing.now in let wishes = wishes_of s.market.heads.now s.market.entries.now l.i in record {
  same : Same l.initial.self l.self;
  going : GoingOn s l.self.rows.now l.self.cells.now l.self.used;
  is : row_by (visit_by s) l.i wishes (record_of l.initial.self) ≡ row_by (visit_by s) l.i (drop l.p wishes) (record_of l.self);
}
