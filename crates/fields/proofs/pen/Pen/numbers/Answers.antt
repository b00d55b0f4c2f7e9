-- What is left to put is what the numbers from the index on are written as.
use mathlib.Core.Path.{refl}
use native.Mathlib.Omega.{arith}
use Rattle.fields.proofs.Pens.{begun, all_put, going_room, going_on, numbers-more, numbers-done}
use Rattle.fields.proofs.pen.Pen.numbers.Goals as goal

pub loop-v-init : goal.loop-v-init
loop-v-init c = begun c.args.self.now refl

pub number-requires : goal.number-requires
number-requires c = going_room c.loop-v.invariant _ _ (numbers-more c.args.vs.now c.loop-v.v-index (omega arith)) c.requires

pub loop-v-preserved : goal.loop-v-preserved
loop-v-preserved c = going_on c.loop-v.invariant _ _ (numbers-more c.args.vs.now c.loop-v.v-index (omega arith)) c.number.ensures

pub returns : goal.returns
returns c = all_put c.loop-v.invariant (numbers-done c.args.vs.now c.loop-v.v-index (omega arith))
