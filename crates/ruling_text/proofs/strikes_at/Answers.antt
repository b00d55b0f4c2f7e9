-- The invariant: reading from the start is reading from here, and the cells hold the strikes passed.
use Prim.Native.Nat.{◌+◌, ◌*◌, ◌-◌}
use mathlib.Core.Path.{sym, ap}
use native.Mathlib.Omega.{arith}
use lib.ListN.{length}
use Rattle.std.proofs.Common.{rules}
use Rattle.std.proofs.lemmas.Result.{err_from_is_err_and}
use Rattle.meaning.specs.Answers.{strike_numbers}
use Rattle.fields.proofs.Puts.{put_copied}
use Rattle.ruling_text.specs.Reader.{strike_line}
use Rattle.ruling_text.specs.Code.{NumbersRead}
use Rattle.ruling_text.proofs.Lined.{lined, passed}
use Rattle.ruling_text.proofs.Turns.{turn-start, turn-refused, turn_on, turn-done, strike-line-refused, strike-line-got}
use Rattle.ruling_text.proofs.strikes_at.Goals as goal

pub loop-c-init : goal.loop-c-init
loop-c-init c = turn-start (strike_line c.args.sizes.trainees) strike_numbers 4 c.args.text.now.rest.now c.args.sizes.strikes c.args.cells.now

pub returns-in_err-strike : goal.returns-in_err-strike
returns-in_err-strike c =
    let l = c.loop-c in
    let p = err_from_is_err_and c.from_residual.result c.from_residual.ensures.1 in
    let t = lined (l.c-counter + 2) (NumbersRead strike_numbers _ _) c.in_err-strike.ensures.cases (λ w h. search rules) c.strike_at.ensures (λ w h. h) in
    rw (p.1, p.2, ← t.on)
    (turn-refused (strike_line c.args.sizes.trainees) strike_numbers 4 l.invariant (omega arith) (strike-line-refused c.args.sizes.trainees l.c-counter l.invariant.total _ t.refused))

pub loop-c-preserved : goal.loop-c-preserved
unfolding strike_numbers
loop-c-preserved c =
    let l = c.loop-c in
    let n = passed (NumbersRead strike_numbers _ _) c.in_ok-strike.ensures.cases (λ w h. h) c.strike_at.ensures in
    let four = sym (ap length n.said) in
    let P = put_copied l.cells c.in_ok-strike.strike (4 * l.c-counter) (4 * l.c-counter + 4 - 4 * l.c-counter) c.copy_from_slice.ensures.after (omega arith) (omega (arith, l.invariant.size)) in
    turn_on (strike_line c.args.sizes.trainees) strike_numbers 4 l.invariant n.it (omega arith) (strike-line-got c.args.sizes.trainees l.c-counter l.invariant.total _ n.goes) n.said four P.cells

pub returns : goal.returns
returns c = turn-done (strike_line c.args.sizes.trainees) strike_numbers 4 c.loop-c.invariant (omega arith)
