-- Below 1 and beyond m no depot is ordered; in between the mark decides. Assumes nothing.
use Prim.Native.Nat.{◌≤◌, ◌<◌}
use mathlib.Core.Path.{◌∙◌}
use mathlib.Core.Logic.{⊎_elim}
use Rattle.checker.proofs.Ways.{depot-below, depot-beyond, depot-marked}
use Rattle.checker.proofs.marks_depot.Goals as goal

pub returns-then-j-lt1 : goal.returns-then-j-lt1
returns-then-j-lt1 c = let a = c.args in ⊎_elim (λ (l : a.j < 1). depot-below _ _ _ l) (λ (w : (1 ≤ a.j) × (a.m < a.j)). depot-beyond _ _ _ w.0 w.1) c.then-j-lt1.either

pub returns : goal.returns
returns c = c.marked.ensures ∙ depot-marked _ _ _ c.if-j-lt1.false c.if-m-j.false
