-- Each arm is its case of `ends_in`. Assumes nothing.
use mathlib.Core.Path.{◌∙◌}
use Rattle.checker.specs.Ends.{ends_in}
use Rattle.checker.proofs.ending_fits.Goals as goal

pub returns-in-Placed : goal.returns-in-Placed
unfolding ends_in
returns-in-Placed c = c.placed_fits.ensures ∙ rw (c.in-Placed.is, ends_in)

pub returns-in-NoneHeld : goal.returns-in-NoneHeld
unfolding ends_in
returns-in-NoneHeld c = c.held_broken.ensures ∙ rw (c.from.ensures, c.from-in-NoneHeld.ensures, c.in-NoneHeld.is, ends_in)

pub returns-in-NoneRoom : goal.returns-in-NoneRoom
unfolding ends_in
returns-in-NoneRoom c = c.room_left.ensures ∙ rw (c.from-in-NoneRoom.ensures, c.from-in-NoneRoom-2.ensures, c.in-NoneRoom.is, ends_in)
