-- The strikes, and then all that follows them.
use Rattle.ruling_text.proofs.Whole.{body-taken}
use Rattle.ruling_text.proofs.body_at.Goals as goal

pub returns : goal.returns
returns c = body-taken c.args.sizes.trainees c.args.sizes.strikes _ c.in_ok-strikes_at.ensures c.in_ok-ending.ensures
