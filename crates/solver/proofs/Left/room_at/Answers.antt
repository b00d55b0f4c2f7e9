-- A full depot has room for nobody; else a pass along its list finds the smallest who would come.
use native.Mathlib.Omega.{arith}
use Prim.Native.Nat.{ℕ}
use mathlib.Core.Path.{sym, ap, ◌∙◌}
use mathlib.Core.List.{List}
use Rattle.reasons.specs.Answers.{choice_of}
use Rattle.reasons.specs.Reasons.{number_or, settled}
use Rattle.reasons.specs.Scans.{least_in}
use Rattle.solver.proofs.Ending.{room-least, room-taken}
use Rattle.solver.proofs.Left.room_at.Goals as goal

pub returns-then-posts-from : goal.returns-then-posts-from
unfolding choice_of
returns-then-posts-from c = let k = c.args.self.now.kept in sym (room-taken _ _ _ k.tables _ k.rows_hold _ c.args.j (omega (arith, c.posts.ensures, c.from.ensures, c.requires.0 c.args.j c.requires.1, c.if-posts-from.true)))

pub returns : goal.returns
returns c =
    let k = c.args.self.now.kept in
    let s = c.args.self.now in
    c.pass_along.ensures.1
    ∙ ap (λ (l : List ℕ). number_or (least_in (settled s.orders.market.heads.now s.orders.market.entries.now s.rows.now 0 c.args.j) l 0)) c.ranking.ensures
    ∙ sym (room-least _ _ _ k.tables _ k.rows_hold _ c.args.j (omega (arith, c.posts.ensures, c.from.ensures, c.requires.0 c.args.j c.requires.1, c.if-posts-from.false)))
