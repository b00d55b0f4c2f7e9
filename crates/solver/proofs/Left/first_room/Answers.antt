-- No depot passed so far has room for a trainee who would come.
use native.Mathlib.Omega.{arith}
use mathlib.Core.Path.{refl}
use Rattle.reasons.specs.Answers.{choice_of}
use Rattle.solver.specs.Ends.{room_of}
use Rattle.solver.proofs.Searches.{room-more, room-hit, room-end}
use Rattle.solver.proofs.Left.first_room.Goals as goal

pub returns-in-Some : goal.returns-in-Some
unfolding room_of choice_of
returns-in-Some c = room-hit _ _ _ _ _ c.loop-j.j _ (omega (arith, c.depots-j-end.ensures)) c.loop-j.invariant _ c.in-Some.ensures _ refl

pub loop-j-preserved : goal.loop-j-preserved
unfolding choice_of
loop-j-preserved c = room-more _ _ _ _ _ c.loop-j.j _ (omega (arith, c.depots-j-end.ensures)) c.loop-j.invariant _ c.in_default.ensures refl

pub returns : goal.returns
unfolding room_of
returns c = room-end _ _ _ _ _ c.loop-j.j _ (omega (arith, c.depots-j-end.ensures)) c.loop-j.invariant
