-- By the rank, then by room, then by the worst rank.
use mathlib.Core.Path.{sym, ap, ◌∙◌}
use native.Mathlib.Omega.{arith}
use lib.Dec.{ltb}
use lib.ListN.{get_or}
use borrow.Author.Tests.{lt-ltb}
use Rattle.stability.proofs.Blocking.{rank-none, rank-some, takes-stranger, takes-room, takes-worse}
use Rattle.stability.proofs.Search.takes.Goals as goal

pub returns-in-None : goal.returns-in-None
returns-in-None c = takes-stranger _ _ _ _ (rank-none _ c.in-None.ensures)

pub returns-then-room : goal.returns-then-room
returns-then-room c = let r = rank-some _ _ c.in-Some.ensures in lt-ltb _ _ c.if-room.true ∙ takes-room _ _ _ _ (λ z. r.1 (sym r.0 ∙ z)) (omega (arith, c.if-room.true, c.posts.ensures, c.from.ensures))

pub returns-else-room : goal.returns-else-room
returns-else-room c =
    let r = rank-some _ _ c.in-Some.ensures in
    ap (λ k. ltb k (get_or c.args.self.now.worsts.now c.args.j 0)) (sym r.0) ∙ takes-worse _ _ _ _ (λ z. r.1 (sym r.0 ∙ z)) (omega (arith, c.if-room.false, c.posts.ensures, c.from.ensures))
