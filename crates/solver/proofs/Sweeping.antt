-- The sweeps' state through one step after another. Assumes nothing.
use Prim.Native.Nat.{ℕ}
use mathlib.Core.Path.{◌≡◌, refl, ap, ◌∙◌, subst}
use mathlib.Core.List.{List}
use Rattle.meaning.specs.declared.Strike.{Strike}
use Rattle.reasons.specs.declared.Standing.{Standing}
use Rattle.meaning.specs.Solver.{rows_by}
use Rattle.ranks.specs.View.{n_of, wishes_of}
use Rattle.solver.specs.Going.{CameTo, visit_by}
use Rattle.solver.specs.Solved.{AllStruck}
use Rattle.solver.specs.Sweeping.{record_of, Same, SweptTo}
use Rattle.solver.specs.declared.Sweeps.{Sweeps}

pub same-self : (s : Sweeps) → Same s s
same-self s = record { standing = refl; rows = refl; cells = refl }

-- a step from a later state is a step from the first
pub swept-on : (s t u : Sweeps) (next : Standing → List Strike) → Same s t → SweptTo t u (next t.standing.now) → SweptTo s u (next s.standing.now)
swept-on s t u next same step = record {
  same = record { standing = step.same.standing ∙ same.standing; rows = step.same.rows ∙ same.rows; cells = step.same.cells ∙ same.cells };
  came = subst (λ (x : Standing). CameTo x u.rows.now u.cells.now u.used (next x)) (ap (λ b. b.now) same.standing) step.came;
}

-- a sweep from a later state is a sweep from the first
pub sweep-on : (s t u : Sweeps) → Same s t → SweptTo t u (rows_by (visit_by t.standing.now) (wishes_of t.standing.now.market.heads.now t.standing.now.market.entries.now) (n_of t.standing.now.market.heads.now) 1 (record_of t))
    → SweptTo s u (rows_by (visit_by s.standing.now) (wishes_of s.standing.now.market.heads.now s.standing.now.market.entries.now) (n_of s.standing.now.market.heads.now) 1 (record_of t))
sweep-on s t u same step = swept-on s t u (λ x. rows_by (visit_by x) (wishes_of x.market.heads.now x.market.entries.now) (n_of x.market.heads.now) 1 (record_of t)) same step

-- what holds of the rows and the cells that the sweeps leave holds of those that were lent to them
pub struck-back : (h e o rows cells rows' cells' : List ℕ) (used : ℕ) → AllStruck h e o rows' cells' used → rows ≡ rows' → cells ≡ cells' → AllStruck h e o rows cells used
struck-back h e o rows cells rows' cells' used done er ec = rw (er, ec) done
