-- Fewer than 8 cells are tested first; else the strikes fit, are laid over the cells, and the numbers of the answer over its own. Assumes nothing.
use mathlib.Core.Path.{sym, ◌∙◌}
use native.Mathlib.Omega.{arith}
use Rattle.exports.specs.Calls.{solve_call}
use Rattle.exports.proofs.Laws.{fewer, enough, answers, strikes-fit, solving}
use Rattle.exports.proofs.frostcrumb_solve.Goals as goal

pub returns-then-answer-lt8 : goal.returns-then-answer-lt8
unfolding solve_call
returns-then-answer-lt8 c = sym (fewer c.args.answer.now _ _ c.if-answer-lt8.true)

pub lay_strikes-requires : goal.lay_strikes-requires
lay_strikes-requires c =
    let a = c.args in
    let f = strikes-fit a.heads.now a.entries.now a.orders.now a.table.now a.cells.now _ _ _ c.solve_lent-r.ensures in
    omega (arith, f.0, f.1, c.recorded_by-count.ensures)

pub returns : goal.returns
unfolding solve_call
returns c =
    let a = c.args in
    sym (enough a.answer.now _ _ c.if-answer-lt8.false)
    ∙ solving a.heads.now a.entries.now a.orders.now a.table.now a.cells.now _ _ _ c.solve_lent-r.ensures a.answer.now _ _ _ _ c.recorded_by-count.ensures c.lay_strikes.ensures
    (λ parts. answers _ a.answer.now _ _ parts c.lay.ensures)
