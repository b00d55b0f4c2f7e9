-- The row with a mark everywhere but at the holds elsewhere has nothing left exactly if there is none. Assumes nothing.
use Prim.Native.Nat.{◌-◌}
use mathlib.Core.Path.{◌∙◌, ap, sym}
use mathlib.Core.Bool.{not}
use native.Mathlib.Omega.{arith}
use Rattle.rows.specs.Marks.{with_mark}
use Rattle.rows.specs.Left.{first_place_left}
use Rattle.checker.proofs.Loops.{obeys-none, obeys-barred, obeys-there}
use Rattle.checker.proofs.obeys_rows.Goals as goal

pub returns-then-c-eq0 : goal.returns-then-c-eq0
returns-then-c-eq0 c = obeys-none _ _ _ c.if-c-eq0.true _ (c.first_left.ensures ∙ ap first_place_left c.turn.ensures)

pub returns-then-not-marked : goal.returns-then-not-marked
returns-then-not-marked c = obeys-there _ _ _ (omega arith) (omega arith) (sym c.if-not-marked.ensures) _ (c.first_left-then-not-marked.ensures ∙ ap first_place_left (c.with_mark.ensures ∙ ap (λ x. with_mark x (c.args.c - 1)) c.turn-then-not-marked.ensures))

pub returns-else-not-marked : goal.returns-else-not-marked
returns-else-not-marked c = ap not c.if-not-marked.false ∙ obeys-barred _ _ _ (omega arith) (omega arith) (sym c.if-not-marked.ensures)
