-- The core's strikes fit into the record, and filling them in leaves what the definition says.
use Rattle.std.proofs.Common.{◌∙◌, sym, ap}
use mathlib.Core.Option.{some}
use Rattle.frostcrumb.specs.Solve.{left}
use Rattle.strikes.specs.Cells.{filled}
use Rattle.frostcrumb.proofs.Telling.{solve-held, solve-tells}
use Rattle.frostcrumb.proofs.solve.Goals as goal

pub fill_record-requires : goal.fill_record-requires
fill_record-requires c =
    let a = c.args in
    rw c.recorded_by.ensures
    (solve-held a.heads.now a.entries.now a.orders.now a.table.now a.log.now c.solve_lent-ruled.result c.solve_lent-ruled.new.table c.solve_lent-ruled.new.cells c.solve_lent-ruled.ensures c.solve_lent-ruled.auto.cells)

pub returns : goal.returns
returns c =
    let a = c.args in
    let r = c.solve_lent-ruled in
    solve-tells a.heads.now a.entries.now a.orders.now a.table.now a.log.now r.result r.new.table r.new.cells r.ensures
    ∙ ap (λ log. some (left r.result r.new.table log)) (sym (c.fill_record.ensures ∙ ap (filled r.new.cells a.log.now) c.recorded_by.ensures))
