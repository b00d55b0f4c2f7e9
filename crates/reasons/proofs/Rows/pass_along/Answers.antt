-- The loop keeps the count and the smallest of the part passed so far.
use native.Mathlib.Omega.{arith}
use mathlib.Core.Path.{ap, ◌∙◌}
use lib.ListN.{get_or}
use Rattle.meaning.specs.Numbers.{bit}
use Rattle.reasons.specs.Reasons.{number_or}
use Rattle.reasons.specs.Scans.{smaller_if}
use Rattle.reasons.proofs.Counts.{count-more, count-done, least_more, least-done, number_found, found-smaller, smaller-number, found-number}
use Rattle.reasons.proofs.Steps.{byte-bit, bit-most, passes-above, passes-down}
use Rattle.reasons.proofs.Rows.pass_along.Goals as goal

pub loop-k-preserved : goal.loop-k-preserved
loop-k-preserved c =
    let l = c.loop-k in
    let above = c.le.ensures ∙ passes-above _ _ _ c.args.part.now _ l.k-index _ _ c.from.ensures c.settled_with-far.ensures in
    let down = c.le-in-loop-k.ensures ∙ passes-down _ _ _ c.args.part.now _ l.k-index _ _ c.from.ensures c.settled_with-far.ensures in
    record {
      few = omega (arith, c.from-settled.ensures ∙ byte-bit c.le.result, bit-most c.le.result, l.invariant.few);
      counted = count-more _ _ l.k-index _ l.settled c.loop-k-test.true l.invariant.counted _ (omega (arith, c.from-settled.ensures ∙ byte-bit c.le.result ∙ ap bit above));
      least = least_more _ _ l.k-index _ _ c.loop-k-test.true l.invariant.least _ (ap number_found c.smaller_if-passed.ensures ∙ smaller-number _ _ _ l.invariant.found ∙ ap (λ b. smaller_if b (get_or c.args.part.now l.k-index 0) (number_found l.passed)) down);
      found = rw c.smaller_if-passed.ensures (found-smaller _ _ _ (c.requires.0 l.k-index c.loop-k-test.true).low l.invariant.found);
    }

pub returns : goal.returns
returns c = let l = c.loop-k in (count-done _ _ l.k-index _ l.settled (omega arith) l.invariant.counted, found-number l.passed l.invariant.found ∙ ap number_or (least-done _ _ l.k-index _ _ (omega arith) l.invariant.least))
