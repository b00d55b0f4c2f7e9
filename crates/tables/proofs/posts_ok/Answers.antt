-- The decoder's own two tests.
use Rattle.std.proofs.Common.{rules, tests}
use Rattle.tables.proofs.Walk.{posts-tests}
use Rattle.tables.proofs.posts_ok.Goals as goal

pub returns : goal.returns
returns c = posts-tests _ _ _ c.posts_of.ensures c.is_none_or.ensures (λ w q. search (rules, tests))
