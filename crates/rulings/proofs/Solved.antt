-- Every ruling whose steps are allowed on a legal placement is a legal ruling, so what the solver rules is one.
-- Assumes nothing.
use Prim.Native.Nat.{ℕ, zero, suc, ◌≤◌}
use mathlib.Core.Path.{◌≡◌}
use mathlib.Core.Bool.{true, false≢true}
use mathlib.Core.Option.{some}
use mathlib.Core.List.{List}
use native.Mathlib.Omega.{arith}
use Rattle.meaning.specs.Numbers.{In}
use Rattle.meaning.specs.Lists.{Each, each_none, each_more}
use Rattle.meaning.specs.Placement.{Placement, Legal}
use Rattle.meaning.specs.Full.{Full, whole, full}
use Rattle.meaning.specs.Market.{trainee_list, market, standing, Lawful, mutual?}
use Rattle.meaning.specs.Strikes.{Struck, nothing, fits, struck, AllowedRecord, start, more}
use Rattle.meaning.specs.Endings.{Outcome, placed_by, none_held, none_room, left_from, left_table, left_of, within?, room?, outcome_fits}
use Rattle.meaning.specs.Solver.{WholeRuling, solve}
use Rattle.meaning.specs.declared.Reason.{Reason}
use Rattle.meaning.specs.declared.Reason.TheVariants.{Barred, HeldElsewhere, PostsGone, Passed}
use Rattle.meaning.specs.declared.Strike.{Strike}
use Rattle.meaning.proofs.Booleans.{and_left, and_right}
use Rattle.meaning.proofs.Lists.{each-end}
use Rattle.meaning.proofs.Pairs.{mutual-is}
use Rattle.meaning.proofs.Full.{full-trainees, full-depots, LegalFull, legal-full, LegalOrders, legal-orders, lawful-market}
use Rattle.meaning.proofs.Entries.{mutual-few}
use Rattle.meaning.proofs.Left.{FirstLeft, first, empty, first-left, left-pair, left-table-length}
use Rattle.meaning.proofs.Records.{allowed-pair, allowed-fits, record-length}
use Rattle.meaning.proofs.Visits.{elsewhere-in, passed-in}
use Rattle.meaning.proofs.Endings.{same-cells}
use Rattle.meaning.proofs.Solver.{solved, solved-allowed, solved-fits}
use Rattle.rulings.specs.Legal.{DEPOTS, LegalReason, legal_barred, legal_elsewhere, legal_gone, legal_passed, LegalStrike, LegalOutcome, legal_table, legal_held, legal_room, LegalRuling}

module _ (p : Placement) (F : Full) (legal : Legal p) (received-all : full p ≡ whole F) where
  its-lists : LegalFull F
  its-lists = legal-full p F legal received-all

  its-orders : LegalOrders F p.orders
  its-orders = legal-orders p F legal received-all

  lawful : Lawful (market F) (standing p.orders)
  lawful = lawful-market F its-lists p.orders its-orders

  -- a depot of the placement is one that a ruling may name
  a-depot : {j : ℕ} → In (market F).m j → In DEPOTS j
  unfolding market
  a-depot r = record { low = r.low; high = omega (arith, r.high, full-depots p F received-all, legal.m) }

  pair-trainee : (i j : ℕ) → mutual? (market F) i j ≡ true → In (market F).n i
  pair-trainee i j t = lawful.ranged.trainee_in_range i j (mutual-is (market F) i j t).ranks

  pair-depot : (i j : ℕ) → mutual? (market F) i j ≡ true → In DEPOTS j
  pair-depot i j t = a-depot (lawful.ranged.depot_in_range i j (mutual-is (market F) i j t).ranks)

  -- ---- strikes

  fitting-reason : (S : Struck) (i j : ℕ) (r : Reason) → fits (market F) (standing p.orders) S i j r ≡ true → LegalReason (market F).n r
  fitting-reason S i j Barred t = legal_barred
  fitting-reason S i j (HeldElsewhere k) t = legal_elsewhere (a-depot (elsewhere-in (market F) (standing p.orders) lawful S i j k t))
  fitting-reason S i j PostsGone t = legal_gone
  fitting-reason S i j (Passed k) t = legal_passed (passed-in (market F) (standing p.orders) lawful S i j k t)

  allowed-strikes : (rec : List Strike) → AllowedRecord (market F) (standing p.orders) nothing rec → Each (LegalStrike (market F).n) rec
  allowed-strikes rec start = each_none
  allowed-strikes rec (more {rec = old} x g a) =
      let S : Struck = struck nothing old in
      let pair = allowed-pair (market F) (standing p.orders) S x.trainee x.depot x.reason a in
      each-end (allowed-strikes old g) (record {
        trainee = pair-trainee x.trainee x.depot pair;
        depot = pair-depot x.trainee x.depot pair;
        reason = fitting-reason S x.trainee x.depot x.reason (allowed-fits (market F) (standing p.orders) S x.trainee x.depot x.reason a);
      })

  -- ---- endings

  left-cells : (lists : ℕ → List ℕ) (S : Struck) (d i : ℕ) → Each (λ j. j ≤ DEPOTS) (left_from (market F) lists S d i)
  unfolding left_from
  left-cells lists S zero i = each_none
  left-cells lists S (suc d) i = each_more (one _ (first-left (market F) S i (lists i))) (left-cells lists S d (suc i))
    where
      one : (x : ℕ) → FirstLeft (market F) S i (lists i) x → x ≤ DEPOTS
      one _ (first x q t h) = (a-depot (lawful.ranged.depot_in_range i x (left-pair (market F) S i x t).ranks)).high
      one _ (empty h) = omega arith

  left-legal : (lists : ℕ → List ℕ) (S : Struck) → LegalOutcome (market F).n (placed_by (left_table (market F) lists S))
  unfolding left_table
  left-legal lists S = legal_table (left-table-length (market F) lists S) (left-cells lists S (market F).n 1)

  fitting-outcome : (lists : ℕ → List ℕ) (S : Struck) (e : Outcome) → outcome_fits (market F) lists (standing p.orders) p.orders S e ≡ true → LegalOutcome (market F).n e
  unfolding outcome_fits room?
  fitting-outcome lists S (placed_by l) t = rw (same-cells l (left_table (market F) lists S) (and_left _ _ t)) (left-legal lists S)
  fitting-outcome lists S (none_held i j) t =
      let held = and_left _ _ t in
      legal_held (lawful.orders.held_trainee i j held) (a-depot (lawful.orders.held_depot i j held))
  fitting-outcome lists S (none_room i j) t =
      let pair = and_left _ _ (and_right (within? (market F) (left_of (market F) lists S)) _ t) in
      legal_room (pair-trainee i j pair) (pair-depot i j pair)

  -- ---- rulings

  -- a ruling for as many trainees, whose strikes are allowed in turn and whose ending fits, is legal
  pub allowed-legal : (r : WholeRuling) → r.trainees ≡ (market F).n → AllowedRecord (market F) (standing p.orders) nothing r.strikes
      → outcome_fits (market F) (trainee_list F) (standing p.orders) p.orders (struck nothing r.strikes) r.outcome ≡ true → LegalRuling r
  unfolding market
  allowed-legal r n g t =
      let few = record-length (market F) (standing p.orders) lawful nothing (λ i j h. absurd (false≢true h)) r.strikes g in
      record {
        n = omega (arith, n, full-trainees p F received-all, legal.n);
        strikes = rw n (allowed-strikes r.strikes g);
        few_strikes = omega (arith, few, mutual-few p F legal received-all);
        outcome = rw n (fitting-outcome (trainee_list F) (struck nothing r.strikes) r.outcome t);
      }

  -- what the solver rules is a legal ruling
  pub solved-legal : (r : WholeRuling) → solve F p.orders ≡ some r → LegalRuling r
  solved-legal r h =
      allowed-legal r (solved F its-lists p.orders its-orders r h).trainees
      (solved-allowed F its-lists p.orders its-orders r h) (solved-fits F its-lists p.orders its-orders r h)
