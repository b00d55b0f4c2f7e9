-- A placement that is held has as many trainees as the heads say, so the numbers are compared there.
use Prim.Native.Nat.{ℕ}
use mathlib.Core.List.{List}
use mathlib.Core.Path.{refl, sym, ap, ◌∙◌}
use native.Mathlib.Omega.{arith}
use lib.ListN.{get_or, take}
use Rattle.std.proofs.lemmas.List.{length-take-le}
use Rattle.std.proofs.lemmas.Result.{err_from_is_err_and}
use Rattle.tables.proofs.Same.{same-held}
use Rattle.stability.specs.Test.{read_depots}
use Rattle.stability.proofs.Guards.{cells-unread, few_trainees, other-number, same_number}
use Rattle.stability.proofs.read_ok.Goals as goal
use Rattle.stability.proofs.read_ok.Goals.{else-trainees-end-via-then-trainees-end+else-depots_ok, else-trainees-end-via-else-trainees-end}

pub returns-in_err-held : goal.returns-in_err-held
returns-in_err-held c = let a = c.args in
    let p = err_from_is_err_and c.from_residual.result c.from_residual.ensures.1 in
    rw (p.1, p.2) (c.in_err-held.ensures.0, sym (cells-unread _ _ _ a.n a.table.now c.in_err-held.ensures.1))

pub slice_bounds-depots_ok-end : goal.slice_bounds-depots_ok-end
slice_bounds-depots_ok-end c = let a = c.args in
    let t = c.in_ok-held.held in
    sym (length-take-le c.from-end.result a.table.now (omega (arith, few_trainees t.heads.now t.entries.now t.orders.now a.n a.table.now t.held, c.if-trainees-end.true, c.trainees.ensures, c.requires)))

pub returns-then-depots_ok : goal.returns-then-depots_ok
returns-then-depots_ok c = let a = c.args in
    let t = c.in_ok-held.held in
    let s = c.in_ok-held.ensures in
    let is = sym (ap (λ (h : List ℕ). get_or h 1 0) s.0) ∙ sym c.trainees.ensures ∙ c.if-trainees-end.true ∙ c.from-end.ensures in (
      s,
      sym (same_number a.lent.heads.now a.lent.entries.now a.lent.orders.now a.n a.table.now (same-held s t.held) is)
          ∙ sym (ap (λ (k : ℕ). read_depots (take k a.table.now)) c.from-end.ensures) ∙ sym c.if-depots_ok.ensures,
    )

pub returns-else-trainees-end : goal.returns-else-trainees-end
returns-else-trainees-end c = let a = c.args in
    let t = c.in_ok-held.held in
    let s = c.in_ok-held.ensures in
    let k = same-held s t.held in
    let heads = ap (λ (h : List ℕ). get_or h 1 0) s.0 in (
      refl,
      elim c.else-trainees-end.branch [
        | else-trainees-end-via-then-trainees-end+else-depots_ok w ↦
            sym (same_number a.lent.heads.now a.lent.entries.now a.lent.orders.now a.n a.table.now k (sym heads ∙ sym c.trainees.ensures ∙ w.if-trainees-end.true ∙ c.from-end.ensures))
            ∙ sym (ap (λ (k : ℕ). read_depots (take k a.table.now)) c.from-end.ensures) ∙ sym w.depots_ok.ensures ∙ w.if-depots_ok.false
        | else-trainees-end-via-else-trainees-end w ↦
            sym (other-number a.lent.heads.now a.lent.entries.now a.lent.orders.now a.n a.table.now k (λ z. w.if-trainees-end.false (c.trainees.ensures ∙ heads ∙ z ∙ sym c.from-end.ensures)))
      ],
    )
