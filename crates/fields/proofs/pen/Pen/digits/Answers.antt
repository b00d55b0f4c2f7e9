-- One digit is put at once; else the digits are the last ones of the number's parts, one after the other, and then its own.
use Prim.Native.Nat.{◌%◌}
use mathlib.Core.Path.{◌≡◌, sym}
use native.Mathlib.Omega.{arith}
use Rattle.fields.proofs.Puts.{one-digit, digits-parts}
use Rattle.fields.proofs.Pens.{digits-first, wrote_then, wrote_as, room-front, room_next}
use Rattle.fields.proofs.pen.Pen.digits.Goals as goal

pub byte-requires : goal.byte-requires
byte-requires c = omega (arith, one-digit c.args.v c.if-v-lt10.true)

pub returns-then-v-lt10 : goal.returns-then-v-lt10
returns-then-v-lt10 c = let e : c.args.v % 10 ≡ c.args.v = omega arith in digits-first c.args.v c.if-v-lt10.true (rw e c.byte.ensures)

pub last_digit-requires : goal.last_digit-requires
last_digit-requires c = room-front c.args.self.now _ _ (room-front c.args.self.now _ _ (room-front c.args.self.now _ _ (room-front c.args.self.now _ _ (rw (digits-parts c.args.v c.ranges.v.fits) at c.requires))))

pub last_digit-requires-2 : goal.last_digit-requires-2
last_digit-requires-2 c = room_next _ c.last_digit.ensures (room-front c.args.self.now _ _ (room-front c.args.self.now _ _ (room-front c.args.self.now _ _ (rw (digits-parts c.args.v c.ranges.v.fits) at c.requires))))

pub last_digit-requires-3 : goal.last_digit-requires-3
last_digit-requires-3 c = room_next _ (wrote_then c.last_digit.ensures c.last_digit-2.ensures) (room-front c.args.self.now _ _ (room-front c.args.self.now _ _ (rw (digits-parts c.args.v c.ranges.v.fits) at c.requires)))

pub last_digit-requires-4 : goal.last_digit-requires-4
last_digit-requires-4 c = room_next _ (wrote_then (wrote_then c.last_digit.ensures c.last_digit-2.ensures) c.last_digit-3.ensures) (room-front c.args.self.now _ _ (rw (digits-parts c.args.v c.ranges.v.fits) at c.requires))

pub byte-requires-2 : goal.byte-requires-2
byte-requires-2 c = room_next _ (wrote_then (wrote_then (wrote_then c.last_digit.ensures c.last_digit-2.ensures) c.last_digit-3.ensures) c.last_digit-4.ensures) (rw (digits-parts c.args.v c.ranges.v.fits) at c.requires)

pub returns : goal.returns
returns c = wrote_as (sym (digits-parts c.args.v c.ranges.v.fits)) (wrote_then (wrote_then (wrote_then (wrote_then c.last_digit.ensures c.last_digit-2.ensures) c.last_digit-3.ensures) c.last_digit-4.ensures) c.byte-2.ensures)
