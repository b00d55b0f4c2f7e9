-- The depot's block stands after the trainees' blocks, and its part is the ranking.
use native.Mathlib.Omega.{arith}
use mathlib.Core.Path.{sym, ◌∙◌}
use Rattle.ranks.proofs.Tables.{ranking-is}
use Rattle.ranks.proofs.Market.ranking.Goals as goal

pub list_at-requires : goal.list_at-requires
list_at-requires c = let t = c.args.self.now.full in (omega (arith, c.depot_at.ensures, c.trainees.ensures, t.heads_long, c.requires.high), rw (c.depot_at.ensures, c.trainees.ensures) (t.depot_part c.args.j c.requires))

pub returns : goal.returns
returns c = c.list_at.ensures ∙ rw (c.depot_at.ensures, c.trainees.ensures) (sym (ranking-is _ _ c.args.j c.requires))
