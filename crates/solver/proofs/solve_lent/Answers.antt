-- The refusals are tried in the definition's order; past them the tables are full, and the solver on cells gives the placement's ruling.
use mathlib.Core.Path.{◌∙◌}
use native.Mathlib.Omega.{arith}
use Rattle.std.proofs.lemmas.Result.{err_from_is_err_and}
use Rattle.tables.specs.Decode.{placement_of}
use Rattle.tables.proofs.Same.{same-of, same-held, same-on}
use Rattle.rulings.proofs.Sizes.{long-parts}
use Rattle.solver.proofs.Guards.{solve-short, solve-unread, held-tables, solve-lacking, ready, solve-whole}
use Rattle.solver.proofs.solve_lent.Goals as goal

pub returns-in_err-lent : goal.returns-in_err-lent
returns-in_err-lent c = let a = c.args in
    let p = err_from_is_err_and c.from_residual.result c.from_residual.ensures.1 in
    rw (p.1, p.2, c.in_err-lent.ensures.0) (solve-short a.heads.now a.entries.now a.orders.now a.table.now a.room _ c.in_err-lent.ensures.1)

pub returns-in_err-held : goal.returns-in_err-held
returns-in_err-held c = let a = c.args in
    let p = err_from_is_err_and c.from_residual-in_err-held.result c.from_residual-in_err-held.ensures.1 in
    let l = c.in_ok-lent.ensures in
    rw (p.1, p.2, c.in_err-held.ensures.0) (solve-unread a.heads.now a.entries.now a.orders.now a.table.now a.room l.1 _ (same-held l.0 c.in_err-held.ensures.1))

pub returns-in-Some : goal.returns-in-Some
returns-in-Some c = let a = c.args in
    let s = same-on c.in_ok-lent.ensures.0 c.in_ok-held.ensures in
    let g = held-tables a.table.now a.room (s, c.in_ok-lent.ensures.1) c.in_ok-held.held.held in
    solve-lacking _ _ _ _ _ g _ (c.in-Some.ensures g.placement (same-of s placement_of ∙ g.held)) _

pub invariant_of-market : goal.invariant_of-market
invariant_of-market c = let a = c.args in
    let s = same-on c.in_ok-lent.ensures.0 c.in_ok-held.ensures in
    let g = held-tables a.table.now a.room (s, c.in_ok-lent.ensures.1) c.in_ok-held.held.held in
    record { full = (ready _ _ _ _ _ g (c.in_default.ensures g.placement (same-of s placement_of ∙ g.held))).0 }

pub invariant_of-all : goal.invariant_of-all
invariant_of-all c = let a = c.args in
    let s = same-on c.in_ok-lent.ensures.0 c.in_ok-held.ensures in
    let g = held-tables a.table.now a.room (s, c.in_ok-lent.ensures.1) c.in_ok-held.held.held in
    record { full = (ready _ _ _ _ _ g (c.in_default.ensures g.placement (same-of s placement_of ∙ g.held))).1; few = omega (arith, c.type_inv.orders 0) }

pub solve_cells-ruling-requires : goal.solve_cells-ruling-requires
solve_cells-ruling-requires c = ((long-parts _ _ _ _ _ c.in_ok-lent.ensures.1).table, omega (arith, c.requires))

pub returns : goal.returns
returns c = let a = c.args in
    let s = same-on c.in_ok-lent.ensures.0 c.in_ok-held.ensures in
    let g = held-tables a.table.now a.room (s, c.in_ok-lent.ensures.1) c.in_ok-held.held.held in
    solve-whole _ _ _ _ _ g (c.in_default.ensures g.placement (same-of s placement_of ∙ g.held)) _ _ _ c.solve_cells-ruling.ensures
