-- By cases on the ending.
use native.Mathlib.Omega.{arith}
use lib.ListN.{length-take}
use Rattle.fields.proofs.Pens.{wrote_as}
use Rattle.ruling_text.specs.Writer.{write_outcome, write_none}
use Rattle.ruling_text.specs.Cells.{outcome_in}
use Rattle.ruling_text.proofs.Written.{table_cells_fit, cell-lines}
use Rattle.ruling_text.proofs.put_outcome.Goals as goal

pub lines-requires : goal.lines-requires
unfolding outcome_in write_outcome
lines-requires c =
    let a = c.args in
    let fit = table_cells_fit (rw c.in-Placed.is at c.requires.1) in
    let long = length-take a.n a.table.now in
    (omega arith, λ i p q. (omega arith, omega arith), rw (cell-lines a.table.now a.n fit) (rw c.in-Placed.is at c.requires.2))

pub line-requires : goal.line-requires
unfolding outcome_in write_outcome write_none
line-requires c = rw c.in-NoneHeld.is at c.requires.2

pub line-requires-in-NoneRoom : goal.line-requires-in-NoneRoom
unfolding outcome_in write_outcome write_none
line-requires-in-NoneRoom c = rw c.in-NoneRoom.is at c.requires.2

pub returns-in-Placed : goal.returns-in-Placed
unfolding outcome_in write_outcome
returns-in-Placed c =
    let a = c.args in
    let fit = table_cells_fit (rw c.in-Placed.is at c.requires.1) in
    rw c.in-Placed.is (wrote_as (cell-lines a.table.now a.n fit) c.lines.ensures)

pub returns-in-NoneHeld : goal.returns-in-NoneHeld
unfolding outcome_in write_outcome write_none
returns-in-NoneHeld c = rw c.in-NoneHeld.is c.line.ensures

pub returns-in-NoneRoom : goal.returns-in-NoneRoom
unfolding outcome_in write_outcome write_none
returns-in-NoneRoom c = rw c.in-NoneRoom.is c.line-in-NoneRoom.ensures
