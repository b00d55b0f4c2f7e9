-- A turn takes the strike at k out of the cells and stores it, which fills one place more.
use Rattle.std.proofs.Common.{◌<◌, ◌∙◌, length, set, sym, ap, ap₂, arith}
use native.Mathlib.Numerals.{add-one}
use Rattle.strikes.specs.Cells.{filled}
use Rattle.strikes.proofs.Rows.{fill_start, fill_more}
use Rattle.strikes.proofs.fill_record.Goals as goal

pub loop-k-init : goal.loop-k-init
loop-k-init c = fill_start c.args.cells.now c.args.log.now

pub loop-k-preserved : goal.loop-k-preserved
loop-k-preserved c =
    let k = c.loop-k.k in
    let inside : k < length c.args.log.now = omega arith in
    c.store.ensures
    ∙ ap₂ (λ log s. set log k s) c.loop-k.invariant c.strike_in.ensures
    ∙ fill_more c.args.cells.now c.args.log.now k inside
    ∙ ap (filled c.args.cells.now c.args.log.now) (sym (add-one k))
