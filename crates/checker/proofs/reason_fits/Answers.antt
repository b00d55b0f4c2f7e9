-- Each arm is its case of `fits_in`. Assumes nothing.
use mathlib.Core.Path.{◌∙◌}
use Rattle.checker.specs.Step.{fits_in}
use Rattle.checker.proofs.reason_fits.Goals as goal

pub returns-in-Barred : goal.returns-in-Barred
unfolding fits_in
returns-in-Barred c = c.marked.ensures ∙ rw (c.in-Barred.is, fits_in)

pub returns-in-HeldElsewhere : goal.returns-in-HeldElsewhere
unfolding fits_in
returns-in-HeldElsewhere c = c.held_elsewhere.ensures ∙ rw (c.depots.ensures, c.from.ensures, c.in-HeldElsewhere.is, fits_in)

pub returns-in-PostsGone : goal.returns-in-PostsGone
unfolding fits_in
returns-in-PostsGone c = c.posts_gone.ensures ∙ rw (c.in-PostsGone.is, fits_in)

pub returns-in-Passed : goal.returns-in-Passed
unfolding fits_in
returns-in-Passed c = c.passed_by.ensures ∙ rw (c.from-in-Passed.ensures, c.in-Passed.is, fits_in)
