-- The tables are filled beside the lent ones, and the fronts copied where the text was taken.
use native.Mathlib.Omega.{arith}
use Rattle.std.proofs.lemmas.Result.{err_from_is_err_and}
use Rattle.ruling_text.proofs.Says.{taken-cells, taken-strikes, table-few, strikes-few, answer-taken, answer-refused}
use Rattle.ruling_text.proofs.read_cells.Goals as goal

pub returns-in_err-ruling : goal.returns-in_err-ruling
returns-in_err-ruling c =
    let a = c.args in
    let p = err_from_is_err_and c.from_residual.result c.from_residual.ensures.1 in
    rw (p.1, p.2) (answer-refused a.s.now a.table.now a.cells.now _ c.in_err-ruling.ensures)

pub copy-requires : goal.copy-requires
copy-requires c =
    let T = c.in_ok-ruling.ensures in
    omega (arith, c.placed_or-used.ensures, taken-cells T, table-few T, c.requires, c.get_ruling.auto.table)

pub copy-requires-2 : goal.copy-requires-2
copy-requires-2 c =
    let T = c.in_ok-ruling.ensures in
    omega (arith, taken-strikes T, strikes-few T, c.requires, c.get_ruling.auto.cells)

pub returns : goal.returns
returns c =
    let a = c.args in
    answer-taken c.in_ok-ruling.ensures a.table.now a.cells.now c.placed_or-used.ensures (omega arith) (omega arith) c.copy.ensures c.copy-2.ensures
