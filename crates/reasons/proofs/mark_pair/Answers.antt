-- Marking the place j - 1 of row i is what the definition does.
use Rattle.reasons.specs.Orders.{mark_for}
use Rattle.reasons.proofs.mark_pair.Goals as goal

pub returns : goal.returns
unfolding mark_for
returns c = c.mark.ensures
