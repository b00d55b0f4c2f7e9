-- No depot is never wrong; any other is, unless it is mutual.
use mathlib.Core.Path.{ap, ◌∙◌}
use mathlib.Core.Bool.{not}
use Rattle.stability.proofs.Firsts.{no-depot, some-depot}
use Rattle.stability.proofs.is_stranger.Goals as goal

pub returns-then-j-ne0 : goal.returns-then-j-ne0
returns-then-j-ne0 c = ap not c.is_mutual.ensures ∙ some-depot _ _ c.if-j-ne0.true

pub returns-else-j-ne0 : goal.returns-else-j-ne0
returns-else-j-ne0 c = no-depot _ _ c.if-j-ne0.false
