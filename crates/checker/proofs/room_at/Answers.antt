-- Three tests, each tried only where those before it pass. Assumes nothing.
use mathlib.Core.Path.{◌∙◌, sym}
use native.Mathlib.Omega.{arith}
use Rattle.checker.proofs.Ways.{and-stops, and-goes, down-far}
use Rattle.checker.proofs.Loops.{room-depot}
use Rattle.checker.proofs.room_at.Goals as goal

pub returns-then-not-is_mutual : goal.returns-then-not-is_mutual
returns-then-not-is_mutual c = and-stops _ (sym c.if-not-is_mutual.ensures)

pub offset_bounds-counts-j : goal.offset_bounds-counts-j
offset_bounds-counts-j c = let m = c.args.rows.now.market in omega (arith, (room-depot _ _ m.full c.args.i c.args.j (sym c.if-not-is_mutual.ensures)).high, m.full.few_depots)

pub bounds-counts-j : goal.bounds-counts-j
bounds-counts-j c = let m = c.args.rows.now.market in omega (arith, (room-depot _ _ m.full c.args.i c.args.j (sym c.if-not-is_mutual.ensures)).high, m.full.few_depots)

pub posts-requires : goal.posts-requires
posts-requires c = let m = c.args.rows.now.market in room-depot _ _ m.full c.args.i c.args.j (sym c.if-not-is_mutual.ensures)

pub returns-then-eq : goal.returns-then-eq
returns-then-eq c =
    rw (c.from.ensures, c.posts.ensures) (and-goes _ (sym (down-far _ _ _ _ _ _ c.settled_with.ensures) ∙ sym c.if-eq.ensures) ∙ and-goes _ (sym c.if-not-is_mutual.ensures))

pub returns-else-eq : goal.returns-else-eq
returns-else-eq c =
    c.if-eq.false ∙ and-stops _ (sym (down-far _ _ _ _ _ _ c.settled_with.ensures) ∙ sym c.if-eq.ensures) ∙ and-goes _ (sym c.if-not-is_mutual.ensures)
