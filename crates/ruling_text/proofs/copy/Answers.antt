-- A copy of the one front over the other.
use Rattle.ruling_text.proofs.Says.{front-copied}
use Rattle.ruling_text.proofs.copy.Goals as goal

pub returns : goal.returns
returns c = front-copied c.args.to.now c.args.from.now c.args.n c.copy_from_slice.ensures.after c.requires.0 c.requires.1
