-- There is no list of a depot 0; any other's place is its rank.
use Prim.Native.Nat.{ℕ}
use mathlib.Core.List.{List}
use mathlib.Core.Path.{ap, ◌∙◌}
use native.Mathlib.Omega.{arith}
use native.Mathlib.Numerals.{add-one}
use lib.ListN.{length}
use Rattle.meaning.specs.Lists.{place}
use Rattle.ranks.proofs.Places.{place-le}
use Rattle.stability.specs.Search.{rank_in}
use Rattle.stability.proofs.Blocking.{no-rank}
use Rattle.stability.proofs.rank_at.Goals as goal

pub returns-then-j-eq0 : goal.returns-then-j-eq0
unfolding rank_in
returns-then-j-eq0 c = ap rank_in (no-rank _ _ _ _ c.if-j-eq0.true)

pub returns-in_err-p : goal.returns-in_err-p
unfolding rank_in
returns-in_err-p c = rw c.from_residual.ensures (ap rank_in (c.in_err-p.ensures ∙ ap (λ (l : List ℕ). place l c.args.i) c.ranking.ensures))

pub overflow_cast-result : goal.overflow_cast-result
overflow_cast-result c = omega (arith, c.in_ok-p.ensures, place-le c.ranking.result.now c.args.i, ap length c.ranking.ensures, c.args.market.now.full.depot_short c.args.j)

pub overflow_add-result : goal.overflow_add-result
overflow_add-result c = omega (arith, c.in_ok-p.ensures, place-le c.ranking.result.now c.args.i, ap length c.ranking.ensures, c.args.market.now.full.depot_short c.args.j)

pub returns : goal.returns
unfolding rank_in
returns c = rw add-one (ap rank_in (c.in_ok-p.ensures ∙ ap (λ (l : List ℕ). place l c.args.i) c.ranking.ensures))
