-- The posts stand in the depot's block, and full tables lack none.
use mathlib.Core.Path.{sym, ◌∙◌}
use Rattle.tables.proofs.Tests.{cell-some, cell-value}
use Rattle.ranks.proofs.Tables.{posts-are, posts-given}
use Rattle.ranks.proofs.Market.posts.Goals as goal

pub unwrap-requires : goal.unwrap-requires
unwrap-requires c =
    let m = c.args.self.now in
    cell-some _ _ c.posts_of.ensures (rw (c.depot_at.ensures, c.trainees.ensures) (posts-given m.heads.now m.entries.now m.full c.args.j c.requires))

pub returns : goal.returns
returns c = cell-value _ _ _ c.posts_of.ensures c.unwrap.ensures ∙ rw (c.depot_at.ensures, c.trainees.ensures) (sym (posts-are _ c.args.j c.requires))
