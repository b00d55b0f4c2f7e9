-- The searches are tried in the order of the endings.
use Rattle.solver.proofs.Whole.{ends-broken, ends-room, ends-placed}
use Rattle.solver.proofs.Left.ending_of.Goals as goal

pub returns-in-Some : goal.returns-in-Some
returns-in-Some c = ends-broken _ _ _ _ _ _ c.in-Some.ensures

pub returns-in-Some-first_room : goal.returns-in-Some-first_room
returns-in-Some-first_room c = ends-room _ _ _ _ c.in_default.ensures _ _ c.in-Some-first_room.ensures

pub returns-in-None : goal.returns-in-None
returns-in-None c = ends-placed _ _ _ _ c.in_default.ensures c.in-None.ensures
