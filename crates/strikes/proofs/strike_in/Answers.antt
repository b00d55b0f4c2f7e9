-- The four cells are the fields of `strike_at`. Assumes nothing.
use Rattle.meaning.specs.Answers.{strike_of}
use Rattle.strikes.specs.Cells.{strike_at}
use Rattle.strikes.proofs.strike_in.Goals as goal

pub returns : goal.returns
unfolding strike_at strike_of
returns c = c.from.ensures
