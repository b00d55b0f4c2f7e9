-- The trainee's block names the part that is the list.
use native.Mathlib.Omega.{arith}
use mathlib.Core.Path.{sym, ◌∙◌}
use Rattle.ranks.proofs.Tables.{wishes-are}
use Rattle.ranks.proofs.Market.wishes.Goals as goal

pub list_at-requires : goal.list_at-requires
list_at-requires c = let t = c.args.self.now.full in (omega (arith, c.trainee_at.ensures, t.heads_long, c.requires.high), rw c.trainee_at.ensures (t.trainee_part c.args.i c.requires))

pub returns : goal.returns
returns c = c.list_at.ensures ∙ rw c.trainee_at.ensures (sym (wishes-are _ _ c.args.i c.requires))
