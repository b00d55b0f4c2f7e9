-- The rows of orders keep exactly the pairs that the orders name, and are those of the placement that the tables hold.
-- Assumes nothing.
use Prim.Native.Nat.{ℕ, zero, suc, ◌+◌, ◌-◌, ◌≤◌, ◌<◌}
use mathlib.Core.Path.{◌≡◌, refl, sym, ap, ◌∙◌, subst, fun_ext}
use mathlib.Core.Logic.{◌⊎◌, inl, inr, ⊎_elim}
use mathlib.Core.Bool.{Bool, true, false, not}
use mathlib.Core.List.{List, [], ◌∷◌, ◌++◌}
use native.Mathlib.Omega.{arith}
use native.Mathlib.Numerals.{add-one}
use lib.ListN.{length-set, length, get_or, take, set}
use lib.Seq.{get_or-set_same, get_or-set_other, take-suc, take_all}
use lib.Dec.{eqb}
use borrow.Author.Tests.{lt-leb, eq-eqb, ne_eqb}
use Rattle.reasons.specs.Rows.{row_pairs, standing_of}
use Rattle.reasons.specs.Orders.{kind_of, order_in, trainee_in, depot_in, orders_in, FullOrders, mark_for, Noted}
use Rattle.meaning.specs.Numbers.{In, ◌&◌, ◌or◌}
use Rattle.meaning.specs.Lists.{Each, some?}
use Rattle.meaning.specs.Placement.{Kind, held, barred, Order, LegalOrder}
use Rattle.meaning.specs.Market.{same_kind, names, standing}
use Rattle.meaning.proofs.Booleans.{never, iff, and_left, and_right, and_intro}
use Rattle.meaning.proofs.Numbers.{order, same}
use Rattle.meaning.proofs.Lists.{some-use}
use Rattle.meaning.proofs.Matchings.{names-trainee, names-depot}
use Rattle.rows.specs.Marks.{is_marked, with_mark}
use Rattle.rows.proofs.Marking.{unmarked-beyond, marked-at-place, marked-elsewhere, past-end-at}
use Rattle.rows.proofs.Coded.{zero-past-end}
use Rattle.tables.specs.Cells.{kind_cell, order_start}
use Rattle.tables.specs.Decode.{within}
use Rattle.tables.proofs.Tests.{in_within, within_in}
use Rattle.tables.proofs.Views.{OrdersSeen}
use Rattle.ranks.specs.View.{n_of, m_of}

-- ---- one more order

some_end : {A : Type 0} (f : A → Bool) (l : List A) (x : A) → some? f (l ++ (x ∷ [])) ≡ (some? f l or f x)
unfolding some? ◌or◌
some_end f [] x = go (f x)
  where
    go : (b : Bool) → elim b as (λ _. Bool) [ true ↦ true | false ↦ false ] ≡ b
    go true = refl
    go false = refl
some_end f (y ∷ l) x = go (f y) (some_end f l x)
  where
    go : (b : Bool) → some? f (l ++ (x ∷ [])) ≡ (some? f l or f x)
        → elim b as (λ _. Bool) [ true ↦ true | false ↦ some? f (l ++ (x ∷ [])) ] ≡ ((elim b as (λ _. Bool) [ true ↦ true | false ↦ some? f l ]) or f x)
    go true w = refl
    go false w = w

or-false : (a : Bool) → (a or false) ≡ a
unfolding ◌or◌
or-false true = refl
or-false false = refl

or-true : (a : Bool) → (a or true) ≡ true
unfolding ◌or◌
or-true true = refl
or-true false = refl

-- a marked pair is marked, and the others are as they were
mark-noted : (rows : List ℕ) (i j a b : ℕ) → i < length rows → 1 ≤ j → j ≤ 64 → 1 ≤ b
    → is_marked (get_or (set rows i (with_mark (get_or rows i 0) (j - 1))) a 0) (b - 1) ≡ (is_marked (get_or rows a 0) (b - 1) or (eqb i a & eqb j b))
unfolding ◌&◌
mark-noted rows i j a b l low high lb = ⊎_elim
    (λ (e : a ≡ i). rw e (at_row (same b j)))
    (λ n. let m : i ≡ a → ⊥ = λ q. n (sym q) in
    ap (λ (x : ℕ). is_marked x (b - 1)) (get_or-set_other rows i a (with_mark (get_or rows i 0) (j - 1)) 0 n) ∙ sym (rw (ne_eqb i a m) (or-false (is_marked (get_or rows a 0) (b - 1)))))
    (same a i)
  where
    new_row : get_or (set rows i (with_mark (get_or rows i 0) (j - 1))) i 0 ≡ with_mark (get_or rows i 0) (j - 1)
    new_row = get_or-set_same rows i (with_mark (get_or rows i 0) (j - 1)) 0 l

    at_row : (b ≡ j) ⊎ (b ≡ j → ⊥) → is_marked (get_or (set rows i (with_mark (get_or rows i 0) (j - 1))) i 0) (b - 1) ≡ (is_marked (get_or rows i 0) (b - 1) or (eqb i i & eqb j b))
    at_row (inl e) = rw (new_row, e, eq-eqb i i refl, eq-eqb j j refl) (marked-at-place (get_or rows i 0) (j - 1) (omega arith) ∙ sym (or-true (is_marked (get_or rows i 0) (j - 1))))
    at_row (inr n) =
        let m : j ≡ b → ⊥ = λ q. n (sym q) in
        rw (new_row, eq-eqb i i refl, ne_eqb j b m) (marked-elsewhere (get_or rows i 0) (j - 1) (b - 1) (λ q. n (omega arith)) ∙ sym (or-false (is_marked (get_or rows i 0) (b - 1))))

for-length : (b : Bool) (rows : List ℕ) (i j : ℕ) → length (mark_for b rows i j) ≡ length rows
unfolding mark_for
for-length true rows i j = length-set rows i (with_mark (get_or rows i 0) (j - 1))
for-length false rows i j = refl

held_test : (c : ℕ) → eqb c 0 ≡ same_kind held (kind_of c)
unfolding same_kind kind_of
held_test zero = refl
held_test (suc c) = ne_eqb (suc c) 0 (λ e. omega arith)

barred-test : (c : ℕ) → not (eqb c 0) ≡ same_kind barred (kind_of c)
unfolding same_kind kind_of
barred-test zero = refl
barred-test (suc c) = ap not (ne_eqb (suc c) 0 (λ e. omega arith))

-- marking a depot of 1 to m keeps the marks inside
inside-still : (b : Bool) (rows : List ℕ) (n m i j : ℕ) → In m j → i < length rows → ((a : ℕ) → In n a → (p : ℕ) → p < 64 → is_marked (get_or rows a 0) p ≡ true → p < m)
    → (a : ℕ) → In n a → (p : ℕ) → p < 64 → is_marked (get_or (mark_for b rows i j) a 0) p ≡ true → p < m
unfolding mark_for
inside-still false rows n m i j r l old a ra p u t = old a ra p u t
inside-still true rows n m i j r l old a ra p u t = ⊎_elim
    (λ (q : p ≡ j - 1). omega (arith, r.low, r.high))
    (λ nq. old a ra p u (⊎_elim
    (λ (e : a ≡ i).
    let s : is_marked (with_mark (get_or rows i 0) (j - 1)) p ≡ true = subst (λ (x : ℕ). is_marked x p ≡ true) (get_or-set_same rows i (with_mark (get_or rows i 0) (j - 1)) 0 l) (rw e at t) in
    rw e (sym (marked-elsewhere (get_or rows i 0) (j - 1) p nq) ∙ s))
    (λ n. subst (λ (x : ℕ). is_marked x p ≡ true) (get_or-set_other rows i a (with_mark (get_or rows i 0) (j - 1)) 0 n) t)
    (same a i)))
    (same p (j - 1))

module _ (h o : List ℕ) (few : m_of h ≤ 64) (fo : FullOrders h o) (k : ℕ) (less : k < get_or o 0 0) (holds bars : List ℕ) (noted : Noted h o k holds bars) where
  -- after the order at k, the rows of a kind keep its pair if it is of that kind
  kept : (kind : Kind) (rows : List ℕ) → n_of h < length rows
      → ((a b : ℕ) → In (n_of h) a → In (m_of h) b → is_marked (get_or rows a 0) (b - 1) ≡ some? (names kind a b) (orders_in o k))
      → (t : Bool) → t ≡ same_kind kind (kind_of (get_or o (order_start k) 0))
      → (a b : ℕ) → In (n_of h) a → In (m_of h) b → is_marked (get_or (mark_for t rows (trainee_in o k) (depot_in o k)) a 0) (b - 1) ≡ some? (names kind a b) (orders_in o (suc k))
  unfolding orders_in mark_for names order_in ◌&◌
  kept kind rows long old t et a b ra rb = go t et ∙ sym (some_end (names kind a b) (orders_in o k) (order_in o k))
    where
      go : (t : Bool) → t ≡ same_kind kind (kind_of (get_or o (order_start k) 0))
          → is_marked (get_or (elim t [ true ↦ set rows (trainee_in o k) (with_mark (get_or rows (trainee_in o k) 0) (depot_in o k - 1)) | false ↦ rows ]) a 0) (b - 1)
          ≡ (some? (names kind a b) (orders_in o k) or names kind a b (order_in o k))
      go true et =
          mark-noted rows (trainee_in o k) (depot_in o k) a b (omega (arith, (fo.trainee k less).high)) (fo.depot k less).low (omega (arith, (fo.depot k less).high)) rb.low
          ∙ rw (old a b ra rb, ← et)
      go false et = rw (old a b ra rb, ← et) (sym (or-false (some? (names kind a b) (orders_in o k))))

  pub noted_more : (b : Bool) → b ≡ eqb (get_or o (order_start k) 0) 0 → (holds' bars' : List ℕ) → holds' ≡ mark_for b holds (trainee_in o k) (depot_in o k) → bars' ≡ mark_for (not b) bars (trainee_in o k) (depot_in o k)
      → Noted h o (k + 1) holds' bars'
  noted_more b eb holds' bars' eh er = rw (eh, er, add-one k) (record {
    rows = record {
      holds_long = rw (for-length b holds (trainee_in o k) (depot_in o k)) noted.rows.holds_long;
      bars_long = rw (for-length (not b) bars (trainee_in o k) (depot_in o k)) noted.rows.bars_long;
      holds_inside = inside-still b holds (n_of h) (m_of h) (trainee_in o k) (depot_in o k) (fo.depot k less) (omega (arith, (fo.trainee k less).high, noted.rows.holds_long)) noted.rows.holds_inside;
    };
    held_noted = kept held holds noted.rows.holds_long noted.held_noted b (eb ∙ held_test (get_or o (order_start k) 0));
    barred_noted = kept barred bars noted.rows.bars_long noted.barred_noted (not b) (ap not eb ∙ barred-test (get_or o (order_start k) 0));
  })

zero-unmarked : (p : ℕ) → is_marked 0 p ≡ false
zero-unmarked p = ⊎_elim
    (λ (l : 64 ≤ p). unmarked-beyond 0 p l)
    (λ (l : p < 64). rw (zero-past-end 64 (omega arith)) (past-end-at 64 p l ∙ lt-leb 64 p l))
    (order 64 p)

-- before the first order nothing is marked
pub noted-none : (h o holds bars : List ℕ) → n_of h < length holds → n_of h < length bars → ((k : ℕ) → In (n_of h) k → get_or holds k 0 ≡ 0) → ((k : ℕ) → In (n_of h) k → get_or bars k 0 ≡ 0)
    → Noted h o 0 holds bars
unfolding orders_in some?
noted-none h o holds bars lh lb zh zb = record {
  rows = record { holds_long = lh; bars_long = lb; holds_inside = λ i r p l t. absurd (never t (rw (zh i r) (zero-unmarked p))) };
  held_noted = λ i j r _. rw (zh i r) (zero-unmarked (j - 1));
  barred_noted = λ i j r _. rw (zb i r) (zero-unmarked (j - 1));
}

-- ---- the orders of the placement

kind-back : (k : Kind) → kind_of (kind_cell k) ≡ k
unfolding kind_of kind_cell
kind-back held = refl
kind-back barred = refl

module _ (n m : ℕ) (o : List ℕ) (xs : List Order) (seen : OrdersSeen n m o xs) where
  order_same : (x : Order) (k : ℕ) → k < length xs → order_in o k ≡ get_or xs k x
  unfolding order_in
  order_same x k l =
      let s = seen.order x k l in
      let a : kind_of (get_or o (order_start k) 0) ≡ (get_or xs k x).kind = ap kind_of s.kind ∙ kind-back (get_or xs k x).kind in
      λ t. record { kind = a t; trainee = s.trainee t; depot = s.depot t }

  orders-front : (x : Order) (k : ℕ) → k ≤ length xs → orders_in o k ≡ take k xs
  unfolding orders_in
  orders-front x zero l = refl
  orders-front x (suc k) l = rw (orders-front x k (omega arith), order_same x k l) (sym (take-suc xs k x l))

  pub orders-same : orders_in o (get_or o 0 0) ≡ xs
  orders-same = rw seen.count (orders-front (record { kind = held; trainee = 0; depot = 0 }) (length xs) (omega arith) ∙ take_all (length xs) xs (omega arith))

-- the rows of all orders stand for the orders
pub standing-noted : (h o holds bars : List ℕ) (xs : List Order) → orders_in o (get_or o 0 0) ≡ xs → Each (LegalOrder (n_of h) (m_of h)) xs → Noted h o (get_or o 0 0) holds bars → standing_of h holds bars ≡ standing xs
unfolding standing_of standing row_pairs
standing-noted h o holds bars xs e fine noted =
    let a : row_pairs (n_of h) (m_of h) holds ≡ (λ i j. some? (names held i j) xs) = fun_ext (λ i. fun_ext (λ j. one held holds noted.held_noted i j)) in
    let b : row_pairs (n_of h) (m_of h) bars ≡ (λ i j. some? (names barred i j) xs) = fun_ext (λ i. fun_ext (λ j. one barred bars noted.barred_noted i j)) in
    λ t. record { held = a t; barred = b t }
  where
    one : (kind : Kind) (rows : List ℕ) → ((i j : ℕ) → In (n_of h) i → In (m_of h) j → is_marked (get_or rows i 0) (j - 1) ≡ some? (names kind i j) (orders_in o (get_or o 0 0)))
        → (i j : ℕ) → row_pairs (n_of h) (m_of h) rows i j ≡ some? (names kind i j) xs
    one kind rows old i j = iff
        (λ t. let ri = within_in (n_of h) i (and_left _ _ t) in
        let rest = and_right (within (n_of h) i) _ t in
        rw (← e) (sym (old i j ri (within_in (m_of h) j (and_left _ _ rest))) ∙ and_right (within (m_of h) j) _ rest))
        (λ t. let p = some-use (names kind i j) xs fine t in
        let ri : In (n_of h) i = subst (In (n_of h)) (names-trainee kind i j p.it p.passed) p.has.trainee in
        let rj : In (m_of h) j = subst (In (m_of h)) (names-depot kind i j p.it p.passed) p.has.depot in
        and_intro (in_within (n_of h) i ri) (and_intro (in_within (m_of h) j rj) (old i j ri rj ∙ rw e t)))

-- ---- the code's way through one order

module _ (o holds bars : List ℕ) (k i j : ℕ) (ei : i ≡ trainee_in o k) (ej : j ≡ depot_in o k) (b : Bool) (eb : b ≡ eqb (get_or o (order_start k) 0) 0) where
  pub noted-held : b ≡ true → {holds' : List ℕ} → holds' ≡ mark_for true holds i j
      → (holds' ≡ mark_for (eqb (get_or o (order_start k) 0) 0) holds (trainee_in o k) (depot_in o k)) × (bars ≡ mark_for (not (eqb (get_or o (order_start k) 0) 0)) bars (trainee_in o k) (depot_in o k))
  unfolding mark_for
  noted-held t e =
      let z : eqb (get_or o (order_start k) 0) 0 ≡ true = sym eb ∙ t in
      (e ∙ rw (z, ei, ej), rw z)

  pub noted-barred : b ≡ false → {bars' : List ℕ} → bars' ≡ mark_for true bars i j
      → (holds ≡ mark_for (eqb (get_or o (order_start k) 0) 0) holds (trainee_in o k) (depot_in o k)) × (bars' ≡ mark_for (not (eqb (get_or o (order_start k) 0) 0)) bars (trainee_in o k) (depot_in o k))
  unfolding mark_for
  noted-barred t e =
      let z : eqb (get_or o (order_start k) 0) 0 ≡ false = sym eb ∙ t in
      (rw z, e ∙ rw (z, ei, ej))
