-- What tables that hold a placement with everything received meet.
-- Assumes nothing.

-- p is the placement that the tables hold, and F its full form
use lib.Seq.{length-take-le}
use Prim.Native.Nat.{ℕ, zero, suc, ◌≤◌, ◌<◌}
use mathlib.Core.Path.{◌≡◌, refl, subst}
use mathlib.Core.Logic.{⊎_elim}
use mathlib.Core.Bool.{true}
use mathlib.Core.Option.{some}
use mathlib.Core.List.{List, [], ◌∷◌, ◌++◌}
use native.Mathlib.Omega.{arith}
use lib.ListN.{length, get_or, take, get_or-eq_default}
use lib.Dec.{leb}
use borrow.Author.Tests.{leb-true, le-leb}
use Rattle.checker.specs.Ends.{left_cells}
use Rattle.checker.specs.Check.{FullPlacement}
use Rattle.reasons.specs.Left.{left_cell}
use Rattle.meaning.specs.Numbers.{In}
use Rattle.meaning.specs.Placement.{held, Placement, Legal}
use Rattle.meaning.specs.Full.{Full, whole, full}
use Rattle.meaning.specs.Market.{Table}
use Rattle.meaning.specs.Endings.{table_of}
use Rattle.meaning.proofs.Booleans.{and_left, and_right, and_intro}
use Rattle.meaning.proofs.Numbers.{order}
use Rattle.rows.specs.Left.{first_place_left}
use Rattle.tables.specs.Cells.{order_start}
use Rattle.tables.specs.Decode.{placement_of}
use Rattle.tables.proofs.Round.{tables-back}
use Rattle.tables.proofs.Views.{OrderSeen, TablesSeen, tables-seen}
use Rattle.ranks.specs.View.{n_of, wishes_of, FullTables}
use Rattle.ranks.proofs.Held.{full-tables}
use Rattle.reasons.specs.Orders.{FullOrders}
use Rattle.stability.specs.Search.{Counts}
use Rattle.stability.specs.Test.{read_depots}

module _ (h e o : List ℕ) (p : Placement) (F : Full) (held_by : placement_of h e o ≡ some p) (its_full : full p ≡ whole F) where
  pub seen : TablesSeen h e o F p.orders
  seen = tables-seen h e o p F held_by its_full

  pub legal : Legal p
  legal = (tables-back h e o p held_by).legal

  pub placement-tables : FullTables h e
  placement-tables = full-tables h e F seen.sides

  pub placement-orders : FullOrders h o
  placement-orders = record {
    cells = omega (arith, seen.orders.count, seen.orders.cells);
    trainee = λ k l. rw (seen.sides.trainees, (its-order k l).trainee) (its-order k l).legal.trainee;
    depot = λ k l. rw (seen.sides.depots, (its-order k l).depot) (its-order k l).legal.depot;
  }
    where
      its-order : (k : ℕ) → k < get_or o 0 0 → OrderSeen (length F.trainees) (length F.depots) (order_start k) o (get_or p.orders k (record { kind = held; trainee = 0; depot = 0 }))
      its-order k l = seen.orders.order (record { kind = held; trainee = 0; depot = 0 }) k (omega (arith, seen.orders.count))

module _ (h e o : List ℕ) (fp : FullPlacement h e o) where
  pub its-tables : FullTables h e
  its-tables = placement-tables h e o fp.placement fp.its_full fp.held fp.received

  pub its-orders : FullOrders h o
  its-orders = placement-orders h e o fp.placement fp.its_full fp.held fp.received

-- ---- the left table under the stability test

read-end : (l : List ℕ) (x : ℕ) → read_depots l ≡ true → x ≤ 64 → read_depots (l ++ (x ∷ [])) ≡ true
unfolding read_depots
read-end [] x t l = and_intro (le-leb x 64 l) refl
read-end (y ∷ ys) x t l = and_intro (and_left _ _ t) (read-end ys x (and_right (leb y 64) _ t) l)

cell-low : (h e rows : List ℕ) → FullTables h e → (i : ℕ) → left_cell h e rows i ≤ 64
unfolding left_cell
cell-low h e rows ft i = ⊎_elim
    (λ (l : length (wishes_of h e i) ≤ first_place_left (get_or rows i 0)). omega (arith, get_or-eq_default (wishes_of h e i) 0 l))
    (λ (l : first_place_left (get_or rows i 0) < length (wishes_of h e i)). omega (arith, (ft.trainee_names i (first_place_left (get_or rows i 0)) l).high, ft.few_depots))
    (order (length (wishes_of h e i)) (first_place_left (get_or rows i 0)))

pub left-read : (h e rows : List ℕ) → FullTables h e → (k : ℕ) → read_depots (left_cells h e rows k) ≡ true
unfolding left_cells read_depots
left-read h e rows ft zero = refl
left-read h e rows ft (suc k) = read-end (left_cells h e rows k) (left_cell h e rows (suc k)) (left-read h e rows ft k) (cell-low h e rows ft (suc k))

read_low : (l : List ℕ) → read_depots l ≡ true → (k : ℕ) → get_or l k 0 ≤ 64
unfolding read_depots
read_low [] t k = omega arith
read_low (y ∷ ys) t zero = leb-true y 64 (and_left _ _ t)
read_low (y ∷ ys) t (suc k) = read_low ys (and_right (leb y 64) _ t) k

-- the left table in the front of an array has a cell for each trainee, of a depot that can be counted
pub record LeftFront (h e rows cells : List ℕ) : Type 0 where
  pub cells_are : cells ≡ left_cells h e rows (n_of h)
  pub long : length cells ≡ n_of h
  pub low : (i : ℕ) → In (length cells) i → table_of cells i ≤ 64

pub left-front : (h e rows : List ℕ) → FullTables h e → (n : ℕ) → n ≡ n_of h → (left : List ℕ) → n_of h ≤ length left → take (n_of h) left ≡ left_cells h e rows (n_of h)
    → LeftFront h e rows (take n left)
unfolding table_of
left-front h e rows ft n en left long el = record { cells_are = rw (en, el); long = rw en (length-take-le (n_of h) left long); low = low }
  where
    low : (i : ℕ) → In (length (take n left)) i → table_of (take n left) i ≤ 64
    low zero r = absurd (omega (arith, r.low))
    low (suc k) r = rw (en, el) (read_low (left_cells h e rows (n_of h)) (left-read h e rows ft (n_of h)) k)

-- the counts are of all trainees
pub counts_all : (M : Table) (k n : ℕ) (counts : List ℕ) → k ≡ n → Counts M k counts → Counts M n counts
counts_all M k n counts e f = subst (λ (x : ℕ). Counts M x counts) e f
