-- The guards of the solver, in the order in which they are tried: each way through the code against the definition.
-- Assumes nothing.
use Prim.Native.Nat.{ℕ}
use mathlib.Core.Path.{◌≡◌, refl, ◌∙◌}
use mathlib.Core.Bool.{true, false, true≢false, false≢true}
use mathlib.Core.Option.{Option, none, some}
use mathlib.Core.List.{List}
use lib.ListN.{length}
use Rattle.solver.specs.Solved.{SolvedAs}
use Rattle.solver.specs.Answer.{solve_if_full, solve_if_read, solve_of, given_by}
use Rattle.rulings.specs.Held.{roomy}
use Rattle.solver.proofs.Whole.{full-orders, orders-fine}
use Rattle.meaning.specs.Placement.{Placement}
use Rattle.meaning.specs.Full.{Full, whole, and_then, full}
use Rattle.meaning.specs.Solver.{WholeRuling, head_of, solve, ruled}
use Rattle.meaning.specs.Answers.{SHORT_PART, NOT_RECEIVED, NOT_READ, refusal}
use Rattle.meaning.specs.declared.Ruling.{Ruling}
use Rattle.meaning.proofs.Solver.{always-ruled}
use Rattle.tables.specs.Decode.{placement_of}
use Rattle.tables.specs.Answers.{LineOf, Same}
use Rattle.tables.specs.Walk.{is_some}
use Rattle.std.specs.Prelude.{Some, None, Ok, Err}
use Rattle.tables.proofs.Lines.{IsWhole, lacking-at, whole-at-zero}
use Rattle.tables.proofs.Same.{same-held}
use Rattle.tables.proofs.Views.{TablesSeen, tables-seen}
use Rattle.ranks.specs.View.{FullTables}
use Rattle.ranks.proofs.Held.{full-tables}
use Rattle.reasons.specs.Orders.{FullOrders}
use Rattle.strikes.specs.Cells.{strikes_in, recorded}

-- ---- the answers

-- past number 8 there is a placement
pub record ReadTables (h e o t : List ℕ) (room : ℕ) : Type 0 where
  pub placement : Placement
  pub held : placement_of h e o ≡ some placement
  pub by : solve_of h e o t room ≡ solve_if_full (ruled placement) t

module _ (h e o t : List ℕ) (room : ℕ) where
  pub solve-short : (cells : List ℕ) → roomy h e o (length t) room ≡ false → solve_of h e o t room ≡ some (given_by (Err (refusal SHORT_PART 0)) t cells)
  unfolding solve_of recorded strikes_in
  solve-short cells u = rw (u, solve_of)

  module _ (long : roomy h e o (length t) room ≡ true) where
    pub solve-unread : (cells : List ℕ) → is_some (placement_of h e o) ≡ false → solve_of h e o t room ≡ some (given_by (Err (refusal NOT_READ 0)) t cells)
    unfolding solve_of solve_if_read recorded strikes_in
    solve-unread cells u = rw (long, solve_of) (go (placement_of h e o) u)
      where
        go : (q : Option Placement) → is_some q ≡ false → solve_if_read q t ≡ some (given_by (Err (refusal NOT_READ 0)) t cells)
        go none u = refl
        go (some p) u = absurd (true≢false u)

    pub read-tables : is_some (placement_of h e o) ≡ true → ReadTables h e o t room
    unfolding solve_of solve_if_read
    read-tables k = go (placement_of h e o) refl k
      where
        go : (q : Option Placement) → placement_of h e o ≡ q → is_some q ≡ true → ReadTables h e o t room
        go none x y = absurd (false≢true y)
        go (some p) x y = record { placement = p; held = x; by = rw (long, solve_of) (rw x) }

-- the same from what the types of lent tables say
pub held-tables : {h' e' o' h e o : List ℕ} (t : List ℕ) (room : ℕ) → Same h' e' o' h e o × (roomy h e o (length t) room ≡ true) → is_some (placement_of h' e' o') ≡ true → ReadTables h e o t room
held-tables t room l k = read-tables _ _ _ t room l.1 (same-held l.0 k)

-- ---- number 7

module _ (h e o t : List ℕ) (room : ℕ) (g : ReadTables h e o t room) where
  pub solve-lacking : (line : ℕ) → LineOf (full g.placement) (Some line) → (cells : List ℕ) → solve_of h e o t room ≡ some (given_by (Err (refusal NOT_RECEIVED line)) t cells)
  unfolding solve_if_full ruled and_then recorded strikes_in
  solve-lacking line gives cells = g.by ∙ rw (lacking-at (full g.placement) line gives)

  -- ---- the ruling

  module _ (gives : LineOf (full g.placement) None) where
    its_full : IsWhole (full g.placement)
    its_full = whole-at-zero g.placement gives

    seen : TablesSeen h e o its_full.value g.placement.orders
    seen = tables-seen h e o g.placement its_full.value g.held its_full.here

    pub ready : FullTables h e × FullOrders h o
    ready = (full-tables h e its_full.value seen.sides, full-orders h e o its_full.value g.placement.orders seen)

    -- what the solver on cells promises is what the definition gives
    pub solve-whole : (table cells : List ℕ) (r : Ruling)
        → ((p : Placement) (F : Full) → placement_of h e o ≡ some p → full p ≡ whole F → (w : WholeRuling) → solve F p.orders ≡ some w → SolvedAs w t table cells r)
        → solve_of h e o t room ≡ some (given_by (Ok r) table cells)
    unfolding solve_if_full ruled and_then recorded head_of strikes_in
    solve-whole table cells r promise =
        let F = its_full.value in
        let fine = orders-fine h e o F g.placement.orders seen in
        let w = always-ruled F seen.sides.legal g.placement.orders fine in
        let s = promise g.placement F g.held its_full.here w.0 w.1 in
        g.by ∙ rw (its_full.here, w.1, s.head, s.strikes, ← s.table_is)
