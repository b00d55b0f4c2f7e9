-- Rows of zeros keep no order, start rows no strike; the sweeps go on from there.
use native.Mathlib.Omega.{arith}
use mathlib.Core.Path.{refl, sym}
use Rattle.std.proofs.Common.{rules}
use Rattle.solver.proofs.Sweeping.{struck-back}
use Rattle.solver.proofs.Whole.{zeros-noted, going_start, all-struck}
use Rattle.solver.proofs.strike_all.Goals as goal

pub note_all-requires : goal.note_all-requires
note_all-requires c = zeros-noted _ _ _ c.args.orders.now.market.full

pub sweep_all-requires : goal.sweep_all-requires
sweep_all-requires c = (going_start _ _ _ _ _ _ c.args.orders.now.market.full c.note_all.ensures.rows (omega (arith, c.requires.0, c.start_rows.auto.rows)) c.requires.1 c.start_rows.ensures, refl)

pub returns : goal.returns
returns c =
    let done = all-struck _ _ _ _ _ _ _ _ c.args.orders.now.full c.note_all.ensures c.sweep_all.ensures.came in
    let same = c.sweep_all.ensures.same in
    let rows = sym same.rows in
    let cells = sym same.cells in
    search (rules, struck-back)
