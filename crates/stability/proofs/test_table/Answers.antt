-- The refusals are tried in the definition's order; past them the tables are full, and their market is the placement's.
use mathlib.Core.Path.{sym, ap, ◌∙◌}
use native.Mathlib.Omega.{arith}
use Rattle.std.specs.Prelude.{Ok}
use Rattle.std.proofs.lemmas.List.{length-take-le}
use Rattle.std.proofs.lemmas.Result.{err_from_is_err_and}
use Rattle.tables.specs.Decode.{placement_of}
use Rattle.tables.proofs.Same.{same-of, same-on}
use Rattle.stability.specs.Test.{read_with}
use Rattle.stability.proofs.Answer.{promised}
use Rattle.stability.proofs.Guards.{few-numbered, long-parts, test_short, test-unread, held-tables, test-lacking, test-tables, test-whole}
use Rattle.stability.proofs.test_table.Goals as goal

pub returns-in_err-lent-clause-answer : goal.returns-in_err-lent-clause-answer
returns-in_err-lent-clause-answer c =
    let p = err_from_is_err_and c.from_residual.result c.from_residual.ensures.1 in
    rw (p.1, p.2, c.in_err-lent.ensures.0) (test_short _ _ _ _ _ c.in_err-lent.ensures.1)

pub read_ok-requires : goal.read_ok-requires
read_ok-requires c = (long-parts _ _ _ _ c.in_ok-lent.ensures.1).table

pub returns-in_err-held-clause-answer : goal.returns-in_err-held-clause-answer
returns-in_err-held-clause-answer c = let a = c.args in
    let p = err_from_is_err_and c.from_residual-in_err-held.result c.from_residual-in_err-held.ensures.1 in
    let l = c.in_ok-lent.ensures in
    rw (p.1, p.2, c.in_err-held.ensures.0) (test-unread _ _ _ _ _ l.1 (sym (ap (λ q. read_with q a.n a.table.now) (same-of l.0 placement_of)) ∙ c.in_err-held.ensures.1))

pub returns-in-Some-clause-answer : goal.returns-in-Some-clause-answer
returns-in-Some-clause-answer c =
    let g = held-tables c.in_ok-lent.ensures c.in_ok-held.ensures.1 in
    test-lacking _ _ _ _ _ g _ (c.in-Some.ensures g.placement (same-of (same-on c.in_ok-lent.ensures.0 c.in_ok-held.ensures.0) placement_of ∙ g.held))

pub slice_bounds-trial-end : goal.slice_bounds-trial-end
slice_bounds-trial-end c = let a = c.args in
    let g = held-tables c.in_ok-lent.ensures c.in_ok-held.ensures.1 in
    sym (length-take-le c.from-end.result a.table.now (omega (arith, c.from-end.ensures, few-numbered _ _ _ _ _ g, (long-parts _ _ _ _ c.in_ok-lent.ensures.1).table)))

pub invariant_of-trial : goal.invariant_of-trial
invariant_of-trial c =
    let g = held-tables c.in_ok-lent.ensures c.in_ok-held.ensures.1 in
    let line = c.in_default.ensures g.placement (same-of (same-on c.in_ok-lent.ensures.0 c.in_ok-held.ensures.0) placement_of ∙ g.held) in
    record { full = (test-tables _ _ _ _ _ g line (long-parts _ _ _ _ c.in_ok-lent.ensures.1).table c.from-end.result c.from-end.ensures).full }

pub invariant_of-trial-2 : goal.invariant_of-trial-2
invariant_of-trial-2 c =
    let g = held-tables c.in_ok-lent.ensures c.in_ok-held.ensures.1 in
    let line = c.in_default.ensures g.placement (same-of (same-on c.in_ok-lent.ensures.0 c.in_ok-held.ensures.0) placement_of ∙ g.held) in
    record { known = test-tables _ _ _ _ _ g line (long-parts _ _ _ _ c.in_ok-lent.ensures.1).table c.from-end.result c.from-end.ensures }

pub returns : goal.returns
returns c =
    let g = held-tables c.in_ok-lent.ensures c.in_ok-held.ensures.1 in
    let line = c.in_default.ensures g.placement (same-of (same-on c.in_ok-lent.ensures.0 c.in_ok-held.ensures.0) placement_of ∙ g.held) in
    let p = promised _ _ _ _ _ _ (ap Ok c.tested.ensures ∙ test-whole _ _ _ _ _ g line c.from-end.result c.from-end.ensures) in record { answer = p.0; truth = p.1 }
