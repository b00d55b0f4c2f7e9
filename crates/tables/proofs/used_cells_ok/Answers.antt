-- The sides decide first; the orders are then read with the counts that the sides have.
use mathlib.Core.Path.{sym, ap₂, ◌∙◌}
use Rattle.tables.specs.Decode.{few_orders_of}
use Rattle.tables.specs.Walk.{is_some}
use Rattle.tables.proofs.Walk.{tables-sides, tables-orders}
use Rattle.tables.proofs.used_cells_ok.Goals as goal

pub returns-then-sides_ok : goal.returns-then-sides_ok
returns-then-sides_ok c =
    let a = c.args in
    c.orders_ok.ensures ∙ ap₂ (λ n m. is_some (few_orders_of n m a.orders.now)) c.trainees_of.ensures c.depots_of.ensures
    ∙ tables-orders a.heads.now a.entries.now a.orders.now (sym c.sides_ok.ensures ∙ c.if-sides_ok.true)

pub returns-else-sides_ok : goal.returns-else-sides_ok
returns-else-sides_ok c =
    let a = c.args in
    c.if-sides_ok.false ∙ tables-sides a.heads.now a.entries.now a.orders.now (sym c.sides_ok.ensures ∙ c.if-sides_ok.false)
