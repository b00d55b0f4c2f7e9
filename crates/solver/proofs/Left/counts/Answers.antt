-- The left table is laid over zeros, and its front is counted.
use mathlib.Core.Path.{sym, subst}
use mathlib.Core.List.{List}
use Prim.Native.Nat.{ℕ, ◌≤◌}
use lib.ListN.{length, take}
use Rattle.meaning.specs.Numbers.{In}
use Rattle.meaning.specs.Endings.{table_of}
use Rattle.stability.specs.Search.{Counts}
use Rattle.solver.proofs.Whole.{counts-ready, counted-left}
use Rattle.solver.proofs.Left.counts.Goals as goal

pub counts_of-requires : goal.counts_of-requires
counts_of-requires c = subst (λ (l : List ℕ). (length (take c.trainees.result l) ≤ 256) × ((i : ℕ) → In (length (take c.trainees.result l)) i → table_of (take c.trainees.result l) i ≤ 64)) (sym c.fill_left.ensures) (counts-ready _ _ _ c.args.self.now.kept _ _ c.trainees.ensures)

pub returns : goal.returns
returns c = counted-left _ _ _ c.args.self.now.kept _ _ c.counts_of.result c.trainees.ensures (subst (λ (l : List ℕ). Counts (table_of (take c.trainees.result l)) (length (take c.trainees.result l)) c.counts_of.result) c.fill_left.ensures c.counts_of.ensures)
