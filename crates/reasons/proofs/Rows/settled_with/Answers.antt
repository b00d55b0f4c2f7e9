-- The first place left tells how far everything is struck; a depot that isn't ranked has no place.
use lib.ListN.{get_or}
use native.Mathlib.Omega.{arith}
use Prim.Native.Nat.{◌+◌}
use mathlib.Core.Path.{refl}
use Rattle.rows.proofs.FirstPlace.{first-at-most}
use Rattle.reasons.proofs.Steps.{not-settled, settled-far}
use Rattle.reasons.proofs.Rows.settled_with.Goals as goal

pub how_far-requires : goal.how_far-requires
how_far-requires c = omega (arith, c.first_left.ensures, first-at-most (get_or c.args.self.now.marks.now c.args.k 0))

pub returns-in-Some : goal.returns-in-Some
returns-in-Some c = settled-far _ _ _ _ _ (c.in-Some.p + 1) _ c.wishes.ensures (omega (arith, c.in-Some.ensures)) (λ z. omega arith) _ _ c.first_left.ensures c.how_far.ensures

pub returns-in-None : goal.returns-in-None
returns-in-None c = not-settled _ _ _ _ _ 0 _ c.wishes.ensures c.in-None.ensures refl
