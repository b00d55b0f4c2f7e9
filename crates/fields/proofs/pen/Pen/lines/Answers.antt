-- What is left to put is the lines from i on.
use Prim.Native.Nat.{◌+◌}
use native.Mathlib.Omega.{arith}
use Rattle.fields.proofs.Pens.{begun, all_put, going_room, going_on, by-begun, by_more, by-done}
use Rattle.fields.proofs.pen.Pen.lines.Goals as goal

pub loop-i-init : goal.loop-i-init
loop-i-init g c = let a = c.args in begun a.self.now (by-begun (g.L.Lines.line a.lines.now) a.from a.count)

pub put-requires : goal.put-requires
put-requires g c =
    let a = c.args in
    let l = c.loop-i in
    (c.requires.1 l.i (omega arith) (omega arith), going_room l.invariant _ _ (by_more (g.L.Lines.line a.lines.now) l.i (a.from + a.count) (omega arith)) c.requires.2)

pub loop-i-preserved : goal.loop-i-preserved
loop-i-preserved g c =
    let a = c.args in
    let l = c.loop-i in
    going_on l.invariant _ _ (by_more (g.L.Lines.line a.lines.now) l.i (a.from + a.count) (omega arith)) c.put.ensures

pub returns : goal.returns
returns g c =
    let a = c.args in
    all_put c.loop-i.invariant (by-done (g.L.Lines.line a.lines.now) c.loop-i.i (a.from + a.count) (omega arith))
