-- Going back from the last entry, the marks are the entries behind, so each new one tells whether the list is good from there on.
use Prim.Native.Nat.{◌-◌}
use mathlib.Core.Path.{refl}
use native.Mathlib.Nat.{sub-zero}
use lib.ListN.{length}
use native.Mathlib.Omega.{arith}
use Rattle.std.proofs.lemmas.Iterator.Adapters.{YieldsList-from_rev_slice}
use Rattle.std.proofs.lemmas.Iterator.Consumers.{YieldsList-turn, YieldsList-end}
use Rattle.std.proofs.lemmas.List.{length_push, length-reverse}
use Rattle.tables.proofs.Entries.{from-behind, scan-start, scan-done, scan-bad, scan-in, scan-on}
use Rattle.tables.proofs.good_entries.Goals as goal

pub loop-x-init : goal.loop-x-init
loop-x-init c = (tt, tt, rw sub-zero (scan-start c.args.hi c.args.list.now _ refl refl))

pub returns-then-not-fresh : goal.returns-then-not-fresh
returns-then-not-fresh c =
    let l = c.loop-x in
    let list = c.args.list.now in
    let t = from-behind list _ _ (YieldsList-turn (YieldsList-from_rev_slice list cc) l.yielded _ l.yielded_by _ _ c.in-Some.x c.in-Some.is c.next.ensures.steps) in
    scan-bad c.args.hi list (length list - length l.yielded) l.marks l.invariant.2 c.requires (omega (arith, t.0)) _ t.1 _ c.fresh.ensures c.if-not-fresh.true

pub bounds-marks-x : goal.bounds-marks-x
bounds-marks-x c =
    let l = c.loop-x in
    let list = c.args.list.now in
    let t = from-behind list _ _ (YieldsList-turn (YieldsList-from_rev_slice list cc) l.yielded _ l.yielded_by _ _ c.in-Some.x c.in-Some.is c.next.ensures.steps) in
    let k = scan-in c.args.hi list (length list - length l.yielded) l.marks l.invariant.2 c.requires (omega (arith, t.0)) _ t.1 _ c.fresh.ensures c.if-not-fresh.false in
    omega (arith, k)

pub loop-x-preserved : goal.loop-x-preserved
loop-x-preserved c =
    let l = c.loop-x in
    let list = c.args.list.now in
    let t = from-behind list _ _ (YieldsList-turn (YieldsList-from_rev_slice list cc) l.yielded _ l.yielded_by _ _ c.in-Some.x c.in-Some.is c.next.ensures.steps) in
    (tt, tt, scan-on c.args.hi list (length list - length l.yielded) l.marks l.invariant.2 c.requires (omega (arith, t.0)) _ t.1 _ c.fresh.ensures c.if-not-fresh.false _ (omega (arith, length_push l.yielded c.in-Some.x)))

pub returns : goal.returns
returns c =
    let l = c.loop-x in
    let list = c.args.list.now in
    let t = YieldsList-end (YieldsList-from_rev_slice list cc) l.yielded _ l.yielded_by _ _ c.in-None.is c.next.ensures.steps in
    scan-done c.args.hi list (length list - length l.yielded) l.marks l.invariant.2 (omega (arith, t.1, length-reverse list))
