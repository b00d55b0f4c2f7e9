-- A turn puts the strike at k into its cells, which lays one strike more.
use Rattle.std.proofs.Common.{◌<◌, ◌≤◌, ◌+◌, ◌*◌, ◌∙◌, length, sym, ap, ap₂, arith}
use native.Mathlib.Numerals.{add-one}
use Rattle.strikes.specs.Cells.{flat, cells_with}
use Rattle.strikes.proofs.Rows.{flat_start, flat-more}
use Rattle.strikes.proofs.flatten.Goals as goal

pub loop-k-init : goal.loop-k-init
loop-k-init c = flat_start c.args.log.now c.args.cells.now

pub loop-k-preserved : goal.loop-k-preserved
loop-k-preserved c =
    let k = c.loop-k.k in
    let inside : k < length c.args.log.now = omega arith in
    let room : 4 * k + 4 ≤ length c.args.cells.now = omega arith in
    c.put_strike.ensures
    ∙ ap₂ (λ cells s. cells_with cells k s) c.loop-k.invariant c.strike_at.ensures
    ∙ flat-more c.args.log.now c.args.cells.now k inside room
    ∙ ap (flat c.args.log.now c.args.cells.now) (sym (add-one k))
