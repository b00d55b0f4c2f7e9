-- The invariant: what is left to put is the lines from i on.
use Prim.Native.Nat.{◌+◌, ◌-◌}
use Rattle.fields.specs.Writer.{lines_by}
use Rattle.fields.proofs.Pens.{Going}
use Rattle.fields.proofs.pen.Pen.lines.Given as goal

abbrev pub invariant-loop-i : goal.invariant-loop-i
invariant-loop-i g l = Going l.initial.self l.self (lines_by (g.L.Lines.line l.lines) l.from l.count) (lines_by (g.L.Lines.line l.lines) l.i (l.from + l.count - l.i))
