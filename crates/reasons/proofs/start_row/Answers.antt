-- The places passed so far are marked where the depot there is a stranger; the rest is the row past the end.
use native.Mathlib.Omega.{arith}
use Prim.Native.Nat.{ℕ}
use mathlib.Core.Path.{sym, ap, ◌∙◌}
use mathlib.Core.List.{List}
use mathlib.Core.Bool.{not}
use lib.ListN.{length, get_or}
use lib.Dec.{ltb}
use Rattle.meaning.specs.Lists.{place}
use Rattle.ranks.specs.View.{ranking_of}
use Rattle.reasons.proofs.Starting.{row-begins, row-goes-on, row_ends, shut-inside}
use Rattle.reasons.proofs.start_row.Goals as goal

pub loop-p-init : goal.loop-p-init
loop-p-init c = let e = ap length c.wishes-wishes.ensures in rw c.past_end-row.ensures (row-begins _ _ c.args.i _ e (omega (arith, e, c.args.market.now.full.trainee_short c.args.i)))

pub loop-p-preserved : goal.loop-p-preserved
loop-p-preserved c =
    let l = c.loop-p in
    let e = ap length c.wishes-wishes.ensures in
    row-goes-on _ _ c.args.i _ e (omega (arith, e, c.args.market.now.full.trainee_short c.args.i)) l.p l.row c.mark_if-row.result c.is_stranger.result c.loop-p-test.true
    (c.is_stranger.ensures
    ∙ ap (λ (x : ℕ). not (ltb 0 (place (ranking_of c.args.market.now.heads.now c.args.market.now.entries.now x) c.args.i))) (c.from.ensures ∙ ap (λ (w : List ℕ). get_or w l.p 0) c.wishes-wishes.ensures)
    ∙ sym (shut-inside c.args.market.now.heads.now c.args.market.now.entries.now c.args.i l.p (omega (arith, e))))
    c.mark_if-row.ensures l.invariant

pub returns : goal.returns
returns c =
    let l = c.loop-p in
    let e = ap length c.wishes-wishes.ensures in
    row_ends _ _ c.args.i _ e (omega (arith, e, c.args.market.now.full.trainee_short c.args.i)) l.p l.row c.loop-p-test.false l.auto.p-end l.invariant
