-- Where the start is the one expected, the decoder goes on to the list, and its choice is made in the code's order.
use mathlib.Core.Path.{◌≡◌, refl, sym, ◌∙◌}
use native.Mathlib.Omega.{arith}
use lib.ListN.{get_or, drop}
use Prim.Native.Nat.{ℕ, ◌+◌}
use Rattle.tables.specs.Cells.{missing_cell}
use Rattle.tables.proofs.Walk.{trainee-wrong, trainee-goes, list-not-received, list-long, list-past, list-bad, list-fits}
use Rattle.tables.proofs.Tests.{cell-missing, cell-given}
use Rattle.tables.proofs.list_end.Goals as goal
use Rattle.tables.proofs.list_end.Goals.{else-v-hi-via-then-v-hi+else-good_entries, else-v-hi-via-else-v-hi}

given : {v w : ℕ} → w ≡ v → (v ≡ missing_cell → ⊥) → w ≡ missing_cell → ⊥
given e k q = k (sym e ∙ q)

pub returns-then-start_of-s : goal.returns-then-start_of-s
returns-then-start_of-s c =
    let a = c.args in
    trainee-wrong a.hi a.s a.at a.heads.now (drop a.s a.entries.now) (omega arith) (λ q. c.if-start_of-s.true (c.start_of.ensures ∙ q))

pub returns-then-is_none : goal.returns-then-is_none
returns-then-is_none c =
    let a = c.args in
    let v = get_or a.heads.now (a.at + 1) 0 in (
      trainee-goes a.hi a.s a.at a.heads.now (drop a.s a.entries.now) (omega arith) v (sym c.start_of.ensures ∙ c.if-start_of-s.false) refl
          ∙ list-not-received a.hi v a.s a.entries.now (cell-missing _ _ _ c.length_of.ensures c.is_none.ensures c.if-is_none.true),
      omega arith,
    )

pub returns-in_err-list : goal.returns-in_err-list
returns-in_err-list c =
    let a = c.args in
    let v = c.cell-v.result in
    rw c.from_residual.ensures
    (trainee-goes a.hi a.s a.at a.heads.now (drop a.s a.entries.now) (omega arith) v (sym c.start_of.ensures ∙ c.if-start_of-s.false) c.cell-v.ensures
    ∙ list-past a.hi v a.s a.entries.now (given c.cell-v.ensures (cell-given _ _ _ c.length_of.ensures c.is_none.ensures c.if-is_none.false)) (omega arith) c.in_err-list.ensures.lookup.0)

pub returns-then-good_entries : goal.returns-then-good_entries
returns-then-good_entries c =
    let a = c.args in
    let v = c.cell-v.result in
    let k = c.in_ok-list.ensures.lookup.0 in (
      trainee-goes a.hi a.s a.at a.heads.now (drop a.s a.entries.now) (omega arith) v (sym c.start_of.ensures ∙ c.if-start_of-s.false) c.cell-v.ensures
          ∙ list-fits a.hi v a.s a.entries.now (given c.cell-v.ensures (cell-given _ _ _ c.length_of.ensures c.is_none.ensures c.if-is_none.false)) _ k.2 k.1 c.if-v-hi.true (sym c.good_entries.ensures ∙ c.if-good_entries.true),
      k.1,
    )

pub returns-else-v-hi : goal.returns-else-v-hi
returns-else-v-hi c =
    let a = c.args in
    let v = c.cell-v.result in
    let k = c.in_ok-list.ensures.lookup.0 in
    trainee-goes a.hi a.s a.at a.heads.now (drop a.s a.entries.now) (omega arith) v (sym c.start_of.ensures ∙ c.if-start_of-s.false) c.cell-v.ensures
    ∙ elim c.else-v-hi.branch [
      | else-v-hi-via-then-v-hi+else-good_entries w ↦ list-bad a.hi v a.s a.entries.now (given c.cell-v.ensures (cell-given _ _ _ c.length_of.ensures c.is_none.ensures c.if-is_none.false)) _ k.2 k.1 (sym w.good_entries.ensures ∙ w.if-good_entries.false)
      | else-v-hi-via-else-v-hi w ↦ list-long a.hi v a.s a.entries.now (given c.cell-v.ensures (cell-given _ _ _ c.length_of.ensures c.is_none.ensures c.if-is_none.false)) w.if-v-hi.false
    ]
