-- The invariant: what is left, read after the entries so far, is the reading of all; these stand in the cells, and the marks are theirs.
use native.Mathlib.Omega.{arith}
use Rattle.std.proofs.lemmas.Result.{err_from_is_err_and}
use Rattle.placement_text.proofs.Ways.{entries-start, entries-refused, entry-range, entries_twice, entries-on, entries-done}
use Rattle.placement_text.proofs.entries.Goals as goal

pub loop-c-init : goal.loop-c-init
loop-c-init c = entries-start c.args.text.now.rest.now c.args.count c.args.k c.args.hi c.args.start c.args.t.now

pub returns-in_err-e : goal.returns-in_err-e
returns-in_err-e c =
    let p = err_from_is_err_and c.from_residual.result c.from_residual.ensures.1 in
    rw (p.1, p.2) (entries-refused c.loop-c.invariant c.loop-c-test.true c.in_err-e.ensures.read)

pub bounds-seen-e : goal.bounds-seen-e
bounds-seen-e c = omega (arith, entry-range c.loop-c.invariant c.loop-c-test.true c.requires.2 c.in_ok-e.ensures.read)

pub returns-then-seen-e : goal.returns-then-seen-e
returns-then-seen-e c = entries_twice c.loop-c.invariant c.loop-c-test.true c.requires.2 c.in_ok-e.ensures.read c.if-seen-e.true

pub bounds-seen-e-in-loop-c : goal.bounds-seen-e-in-loop-c
bounds-seen-e-in-loop-c c = omega (arith, entry-range c.loop-c.invariant c.loop-c-test.true c.requires.2 c.in_ok-e.ensures.read)

pub loop-c-preserved : goal.loop-c-preserved
loop-c-preserved c = entries-on c.loop-c.invariant c.loop-c-test.true c.requires.2 c.in_ok-e.ensures.read c.if-seen-e.false

pub returns : goal.returns
returns c = entries-done c.loop-c.invariant c.loop-c-test.false
