-- The line is that of the order that the cells say.
use Prim.Native.Nat.{◌+◌}
use native.Mathlib.Omega.{arith}
use Rattle.fields.proofs.Pens.{wrote_as}
use Rattle.placement_writer.proofs.Lines.{order-line}
use Rattle.placement_writer.proofs.OrderLinesLines.put.Goals as goal

pub overflow_cast-trainee : goal.overflow_cast-trainee
overflow_cast-trainee c = omega (arith, c.args.self.now.fits (c.order_at-cells.result + 1))

pub overflow_cast-depot : goal.overflow_cast-depot
overflow_cast-depot c = omega (arith, c.args.self.now.fits (c.order_at-cells.result + 2))

pub line-requires : goal.line-requires
line-requires c =
    let e = order-line c.args.self.now.orders.now c.order_at-cells.result _ c.kind_word-word.ensures c.kind_at.ensures c.order_trainee-trainee.ensures c.order_depot-depot.ensures in
    rw (e, c.order_at-cells.ensures) c.requires.1

pub returns : goal.returns
returns c =
    let e = order-line c.args.self.now.orders.now c.order_at-cells.result _ c.kind_word-word.ensures c.kind_at.ensures c.order_trainee-trainee.ensures c.order_depot-depot.ensures in
    rw (← c.order_at-cells.ensures) (wrote_as e c.line.ensures)
