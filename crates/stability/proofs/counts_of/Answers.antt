-- After each trainee the cells are the counts among those met so far, since one more is counted at one depot only.
use mathlib.Core.Path.{refl, ◌∙◌}
use native.Mathlib.Omega.{arith}
use lib.Dec.{eqb}
use lib.ListN.{length-set}
use Rattle.meaning.specs.Endings.{table_of}
use Rattle.stability.proofs.Firsts.{its-cell}
use Rattle.stability.proofs.Seats.{counts_start, counts-more, count-few, given-small}
use Rattle.stability.proofs.counts_of.Goals as goal

pub loop-j-init : goal.loop-j-init
loop-j-init c = (refl, counts_start _)

pub bounds-counts-from : goal.bounds-counts-from
bounds-counts-from c = omega (arith, given-small _ c.loop-j.j-index _ c.loop-j-test.true c.requires.1 (its-cell _ _ _ c.from.ensures))

pub overflow_add-counts : goal.overflow_add-counts
overflow_add-counts c =
    let l = c.loop-j in
    omega (arith, l.invariant.1 c.from.result (given-small _ l.j-index _ c.loop-j-test.true c.requires.1 (its-cell _ _ _ c.from.ensures)), count-few (λ k. eqb (table_of c.args.table.now k) c.from.result) l.j-index, c.requires.0)

pub bounds-counts-from-in-loop-j : goal.bounds-counts-from-in-loop-j
bounds-counts-from-in-loop-j c = omega (arith, given-small _ c.loop-j.j-index _ c.loop-j-test.true c.requires.1 (its-cell _ _ _ c.from.ensures))

pub loop-j-preserved : goal.loop-j-preserved
loop-j-preserved c =
    let l = c.loop-j in
    let own = its-cell c.args.table.now l.j-index _ c.from.ensures in
    (length-set l.counts _ _ ∙ l.invariant.0, counts-more _ l.j-index l.counts l.invariant.0 _ (given-small _ l.j-index _ c.loop-j-test.true c.requires.1 own) own l.invariant.1)
