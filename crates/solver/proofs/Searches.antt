-- One law for each way through the searches for the ending.
-- Assumes nothing.
use Prim.Native.Nat.{ℕ, zero, suc, ◌+◌, ◌-◌, ◌≤◌, ◌<◌}
use mathlib.Core.Path.{◌≡◌, refl, sym, ap, ap₂, ◌∙◌, subst}
use mathlib.Core.Logic.{⊎_elim}
use mathlib.Core.Bool.{Bool, true, false, not}
use lib.Dec.{eqb}
use borrow.Author.Tests.{eqb-true, eqb-false}
use mathlib.Core.Option.{Option, none, some}
use mathlib.Core.List.{List, [], ◌∷◌, ◌++◌}
use native.Mathlib.Omega.{arith}
use native.Mathlib.Numerals.{add-one}
use lib.ListN.{drop_of_length-le, length, get_or, drop, length-append, length-drop, get_or-append}
use lib.Seq.{drop-cons, get_or-drop, ext_get_or, get_or-append-add}
use Rattle.solver.specs.Ends.{struck_in, broken_in, broken_pair}
use Rattle.solver.proofs.Ending.{open-broken, left-table-same}
use Rattle.meaning.specs.Numbers.{In, ◌&◌, smallest}
use Rattle.meaning.specs.Placement.{held, Order}
use Rattle.meaning.specs.Market.{same_kind, Table}
use Rattle.meaning.specs.Strikes.{fits}
use Rattle.meaning.specs.Endings.{Outcome, none_room, table_of, left_table, broken?, first_broken, room?, room_or, room_from}
use Rattle.meaning.specs.Examples.{hold}
use Rattle.meaning.proofs.Numbers.{order}
use Rattle.meaning.proofs.Left.{left-table-length}
use Rattle.tables.specs.Cells.{laid, order_start}
use Rattle.ranks.specs.View.{n_of, wishes_of, market_of, FullTables}
use Rattle.reasons.specs.Left.{open_at, LaidTo}
use Rattle.reasons.specs.Rows.{RowsHold}
use Rattle.reasons.specs.Orders.{kind_of, order_in, trainee_in, depot_in, orders_in}
use Rattle.std.specs.Prelude.{Some, None}

-- ---- the first broken hold

pub orders-length : (o : List ℕ) (c : ℕ) → length (orders_in o c) ≡ c
unfolding orders_in
orders-length o zero = refl
orders-length o (suc c) = length-append (orders_in o c) (order_in o c ∷ []) ∙ omega (arith, orders-length o c)

nth_end : (l : List Order) (y x : Order) (c : ℕ) → length l ≡ c → get_or (l ++ (y ∷ [])) c x ≡ y
nth_end [] y x zero e = refl
nth_end [] y x (suc c) e = absurd (omega arith)
nth_end (z ∷ l) y x zero e = absurd (omega arith)
nth_end (z ∷ l) y x (suc c) e = nth_end l y x c (omega arith)

nth-front : (l : List Order) (y x : Order) (k : ℕ) → k < length l → get_or (l ++ (y ∷ [])) k x ≡ get_or l k x
nth-front [] y x k u = absurd (omega arith)
nth-front (z ∷ l) y x zero u = refl
nth-front (z ∷ l) y x (suc k) u = nth-front l y x k (omega arith)

orders-nth : (o : List ℕ) (c k : ℕ) (x : Order) → k < c → get_or (orders_in o c) k x ≡ order_in o k
unfolding orders_in
orders-nth o zero k x l = absurd (omega arith)
orders-nth o (suc c) k x l = ⊎_elim
    (λ (u : c ≤ k). let e : k ≡ c = omega arith in rw e (nth_end (orders_in o c) (order_in o c) x c (orders-length o c)))
    (λ (u : k < c). nth-front (orders_in o c) (order_in o c) x k (omega (arith, u, orders-length o c)) ∙ orders-nth o c k x u)
    (order c k)

held-kind : (c : ℕ) → c ≡ 0 → same_kind held (kind_of c) ≡ true
unfolding same_kind kind_of
held-kind c z = rw z

barred-kind : (c : ℕ) → (c ≡ 0 → ⊥) → same_kind held (kind_of c) ≡ false
unfolding same_kind kind_of
barred-kind zero n = absurd (n refl)
barred-kind (suc c) n = refl

-- what stands past the last order
blank-order : Order
blank-order = record { kind = held; trainee = 0; depot = 0 }

module _ (h e o rows : List ℕ) (k : ℕ) (b : Bool) (eb : b ≡ eqb (get_or o (order_start k) 0) 0) where
  pub not-a-hold : b ≡ false → b ≡ broken? (market_of h e) (struck_in h e rows) (order_in o k)
  unfolding broken? order_in ◌&◌
  not-a-hold u = u ∙ rw (barred-kind (get_or o (order_start k) 0) (eqb-false _ _ (sym eb ∙ u)))

  pub a-hold : b ≡ true → (i j : ℕ) → i ≡ trainee_in o k → j ≡ depot_in o k → (d : Bool) → d ≡ open_at h e rows i j → FullTables h e
      → RowsHold (market_of h e) (wishes_of h e) (struck_in h e rows) rows → In (n_of h) i → not d ≡ broken? (market_of h e) (struck_in h e rows) (order_in o k)
  unfolding broken? order_in broken_in ◌&◌
  a-hold t i j ei ej d ed ft hold r =
      let s : same_kind held (kind_of (get_or o (order_start k) 0)) ≡ true = held-kind (get_or o (order_start k) 0) (eqb-true _ _ (sym eb ∙ t)) in
      ap not ed ∙ open-broken h e rows ft hold i j r ∙ rw (s, ei, ej)

module _ (h e o rows : List ℕ) (c k : ℕ) (inv : first_broken (market_of h e) (struck_in h e rows) (orders_in o c) ≡ first_broken (market_of h e) (struck_in h e rows) (drop k (orders_in o c))) where
  broken-first : k < c → broken? (market_of h e) (struck_in h e rows) (order_in o k) ≡ true → first_broken (market_of h e) (struck_in h e rows) (drop k (orders_in o c)) ≡ some (order_in o k)
  unfolding first_broken
  broken-first l t = rw (drop-cons (orders_in o c) k blank-order (omega (arith, l, orders-length o c)), orders-nth o c k blank-order l, t, first_broken) (ap some (orders-nth o c k blank-order l))

  pub broken-hit : k < c → broken? (market_of h e) (struck_in h e rows) (order_in o k) ≡ true → (i j : ℕ) → i ≡ trainee_in o k → j ≡ depot_in o k
      → Some (i, j) ≡ broken_pair (first_broken (market_of h e) (struck_in h e rows) (orders_in o c))
  unfolding broken_pair order_in
  broken-hit l t i j ei ej = ap₂ (λ (a b : ℕ). Some (a, b)) ei ej ∙ sym (ap broken_pair (inv ∙ broken-first l t))

  pub broken-on : k < c → broken? (market_of h e) (struck_in h e rows) (order_in o k) ≡ false
      → first_broken (market_of h e) (struck_in h e rows) (orders_in o c) ≡ first_broken (market_of h e) (struck_in h e rows) (drop (k + 1) (orders_in o c))
  unfolding first_broken
  broken-on l u = inv ∙ rw (drop-cons (orders_in o c) k blank-order (omega (arith, l, orders-length o c)), orders-nth o c k blank-order l, u, first_broken, add-one)

  pub broken-end : c ≤ k → None ≡ broken_pair (first_broken (market_of h e) (struck_in h e rows) (orders_in o c))
  unfolding first_broken broken_pair
  broken-end l =
      let z : drop k (orders_in o c) ≡ [] = drop_of_length-le (orders_in o c) {i = k} (omega (arith, l, orders-length o c)) in
      let f : first_broken (market_of h e) (struck_in h e rows) (drop k (orders_in o c)) ≡ none = rw z in
      rw (inv ∙ f)

-- ---- the left table

pub laid-all : (h e rows old table : List ℕ) → FullTables h e → RowsHold (market_of h e) (wishes_of h e) (struck_in h e rows) rows → n_of h ≤ length old
    → LaidTo h e rows old (n_of h) table → table ≡ laid (left_table (market_of h e) (wishes_of h e) (struck_in h e rows)) old
unfolding laid market_of table_of
laid-all h e rows old table ft hold fits inv = ext_get_or 0 table _ lengths each
  where
    L : List ℕ
    L = left_table (market_of h e) (wishes_of h e) (struck_in h e rows)

    ln : length L ≡ n_of h
    ln = left-table-length (market_of h e) (wishes_of h e) (struck_in h e rows)

    lengths : length table ≡ length (L ++ drop (length L) old)
    lengths = inv.long ∙ sym (length-append L (drop (length L) old) ∙ omega (arith, length-drop (length L) old, ln, fits))

    each : (q : ℕ) → q < length table → get_or table q 0 ≡ get_or (L ++ drop (length L) old) q 0
    each q l = ⊎_elim
        (λ (u : n_of h ≤ q).
        let z : length L + (q - length L) ≡ q = omega (arith, ln) in
        inv.untouched q (omega arith) ∙ sym (subst (λ (x : ℕ). get_or (L ++ drop (length L) old) x 0 ≡ get_or old x 0) z (get_or-append-add L (drop (length L) old) (q - length L) 0 ∙ get_or-drop (length L) old (q - length L) 0)))
        (λ (u : q < n_of h).
        let r : In (n_of h) (q + 1) = record { low = omega arith; high = omega arith } in
        inv.filled q (omega arith) ∙ sym (left-table-same h e ft (struck_in h e rows) rows hold (q + 1) r) ∙ rw (add-one q) (sym (get_or-append L (drop (length L) old) 0 q (omega (arith, ln)))))
        (order (n_of h) q)

-- ---- room

module _ (h e rows : List ℕ) (L : Table) (m j : ℕ) (whole-search : Option Outcome) (l : j ≤ m) (inv : whole-search ≡ room_from (market_of h e) (struck_in h e rows) L (m + 1 - j) j)
    (o : Option ℕ) (eo : o ≡ smallest (n_of h) (λ i. room? (market_of h e) (struck_in h e rows) L i j)) where
  one-more : m + 1 - j ≡ suc (m + 1 - (j + 1))
  one-more = omega arith

  pub room-more : o ≡ none → whole-search ≡ room_from (market_of h e) (struck_in h e rows) L (m + 1 - (j + 1)) (j + 1)
  unfolding room_from room_or market_of
  room-more z =
      let s : smallest (n_of h) (λ i. room? (market_of h e) (struck_in h e rows) L i j) ≡ none = sym eo ∙ z in
      inv ∙ rw (one-more, s) (ap (room_from (market_of h e) (struck_in h e rows) L (m + 1 - (j + 1))) (sym (add-one j)))

  pub room-hit : (i : ℕ) → o ≡ some i → some (none_room i j) ≡ whole-search
  unfolding room_from room_or market_of
  room-hit i z =
      let s : smallest (n_of h) (λ i. room? (market_of h e) (struck_in h e rows) L i j) ≡ some i = sym eo ∙ z in
      sym (inv ∙ rw (one-more, s))

pub room-end : (h e rows : List ℕ) (L : Table) (m j : ℕ) (whole-search : Option Outcome) → m < j → whole-search ≡ room_from (market_of h e) (struck_in h e rows) L (m + 1 - j) j → none ≡ whole-search
unfolding room_from
room-end h e rows L m j whole-search l inv = let d : m + 1 - j ≡ 0 = omega arith in sym (inv ∙ rw d)
