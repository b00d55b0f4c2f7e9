-- Demand 3 for a legal placement in which everything was received; and without orders a table is always ruled.
-- Assumes nothing.
use Prim.Native.Nat.{ℕ}
use mathlib.Core.Path.{◌≡◌, sym, ap, ◌∙◌}
use mathlib.Core.Option.{some}
use mathlib.Core.List.{List, []}
use lib.ListN.{length}
use Rattle.meaning.specs.Placement.{Placement, Legal}
use Rattle.meaning.specs.Full.{Full, whole, and_then, full}
use Rattle.meaning.specs.Market.{market}
use Rattle.meaning.specs.Endings.{placed_by}
use Rattle.meaning.specs.Solver.{WholeRuling, head_of, solve, ruled}
use Rattle.meaning.specs.Checker.{check}
use Rattle.meaning.specs.Demands.{SolverKeeps, CheckerKeeps}
use Rattle.meaning.proofs.Full.{full-trainees, LegalFull, legal-full, LegalOrders, legal-orders}
use Rattle.meaning.proofs.Solver.{strikes-lowest, strikes-exhausted, one-more-sweep, few_strikes, always-ruled, solved, solved-true, solved-first, exists-then-placed}
use Rattle.meaning.proofs.Checker.{check-says, accepted-true, solved-accepted}
use Rattle.meaning.proofs.Existence.{always-placed}

module _ (p : Placement) (legal : Legal p) (F : Full) (received-all : full p ≡ whole F) where
  here : LegalFull F
  here = legal-full p F legal received-all

  fine : LegalOrders F p.orders
  fine = legal-orders p F legal received-all

  pub solver-keeps : (r : WholeRuling) × SolverKeeps p F r
  unfolding ruled and_then market head_of
  solver-keeps =
      let a = always-ruled F here p.orders fine in
      let r : WholeRuling = a.0 in
      let w = solved F here p.orders fine r a.1 in
      let keep : SolverKeeps p F r = record {
        rules = rw (received-all, ruled, and_then) (ap whole a.1);
        trainees = w.trainees ∙ sym (full-trainees p F received-all);
        true_ruling = solved-true F here p.orders fine r a.1;
        placed_if = exists-then-placed F here p.orders fine r a.1;
        lowest = rw w.strikes (strikes-lowest F here p.orders fine);
        one_more = rw w.strikes (one-more-sweep F here p.orders fine);
        exhausted = rw w.strikes (strikes-exhausted F here p.orders fine);
        counted = ap length w.strikes;
        few = rw w.strikes (few_strikes F here p.orders fine);
        first = rw w.strikes (solved-first F here p.orders fine r a.1);
        accepted_by = solved-accepted F here p.orders fine r a.1;
      } in
      (r, keep)

  pub checker-keeps : (r : WholeRuling) → CheckerKeeps p F r (check F p.orders r)
  checker-keeps r = record { says = check-says F here p.orders fine r; true_if = accepted-true F here p.orders fine r }

  -- without orders a stable matching exists, so a table is ruled
  pub placed-without-orders : p.orders ≡ [] → (r : WholeRuling) → solve F p.orders ≡ some r → (l : List ℕ) × (r.outcome ≡ placed_by l)
  placed-without-orders none-stand r h = always-placed F here r (rw none-stand at h)
