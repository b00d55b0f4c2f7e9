-- The first three cells are the decoder's first choice; the rest is the lists'.
use mathlib.Core.Path.{sym, ◌∙◌}
use native.Mathlib.Omega.{arith}
use Rattle.tables.proofs.Round.{limits-back}
use Rattle.tables.proofs.Walk.{sides-limits, sides-lists}
use Rattle.tables.proofs.sides_ok.Goals as goal

pub lists_ok-requires : goal.lists_ok-requires
lists_ok-requires c =
    let L = limits-back _ _ _ (sym c.limits_ok.ensures ∙ c.if-limits_ok.true) in
    (omega arith, L.few_trainees, L.few_depots)

pub returns-then-limits_ok : goal.returns-then-limits_ok
returns-then-limits_ok c =
    let a = c.args in
    c.lists_ok.ensures
    ∙ sides-lists a.heads.now a.entries.now (omega arith) _ _ _ c.edition_of.ensures c.trainees_of-n.ensures c.depots_of-m.ensures (sym c.limits_ok.ensures ∙ c.if-limits_ok.true)

pub returns-else-limits_ok : goal.returns-else-limits_ok
returns-else-limits_ok c =
    let a = c.args in
    c.if-limits_ok.false
    ∙ sides-limits a.heads.now a.entries.now (omega arith) _ _ _ c.edition_of.ensures c.trainees_of-n.ensures c.depots_of-m.ensures (sym c.limits_ok.ensures ∙ c.if-limits_ok.false)
