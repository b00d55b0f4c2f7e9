-- The invariant: reading from the start is reading from here, and the table holds the cells passed.
use Prim.Native.Nat.{◌+◌}
use mathlib.Core.Path.{refl}
use native.Mathlib.Omega.{arith}
use Rattle.std.proofs.Common.{rules}
use Rattle.std.proofs.lemmas.Result.{err_from_is_err_and}
use Rattle.fields.specs.Leaves.{StepRead}
use Rattle.ruling_text.specs.Reader.{cell_line}
use Rattle.ruling_text.specs.Code.{cell_numbers}
use Rattle.ruling_text.proofs.Lined.{lined, passed}
use Rattle.ruling_text.proofs.Turns.{turn-start, turn-refused, turn_on, turn-done, cell-line-refused, cell-line-got, one-stored}
use Rattle.ruling_text.proofs.table_at.Goals as goal

pub loop-c-init : goal.loop-c-init
loop-c-init c = turn-start (cell_line c.args.sizes.strikes) cell_numbers 1 c.args.text.now.rest.now c.args.sizes.trainees c.args.table.now

pub returns-in_err-depot : goal.returns-in_err-depot
returns-in_err-depot c =
    let l = c.loop-c in
    let p = err_from_is_err_and c.from_residual.result c.from_residual.ensures.1 in
    let t = lined (c.args.sizes.strikes + l.c-counter + 2) (StepRead _ _) c.in_err-depot.ensures.cases (λ w h. search rules) c.cell_at.ensures (λ w h. h) in
    rw (p.1, p.2, ← t.on)
    (turn-refused (cell_line c.args.sizes.strikes) cell_numbers 1 l.invariant (omega arith) (cell-line-refused c.args.sizes.strikes l.c-counter l.invariant.total _ t.refused))

pub loop-c-preserved : goal.loop-c-preserved
loop-c-preserved c =
    let l = c.loop-c in
    let g = passed (StepRead _ _) c.in_ok-depot.ensures.cases (λ w h. h) c.cell_at.ensures in
    turn_on (cell_line c.args.sizes.strikes) cell_numbers 1 l.invariant _ (omega arith) (cell-line-got c.args.sizes.strikes l.c-counter l.invariant.total _ g) refl refl (one-stored l.table l.c-counter _)

pub returns : goal.returns
returns c = turn-done (cell_line c.args.sizes.strikes) cell_numbers 1 c.loop-c.invariant (omega arith)
