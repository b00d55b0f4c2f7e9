-- What full tables say, for those who walk them: each list is a part of the entries, each number a cell, and all of it in range.
-- Assumes nothing.
use Prim.Native.Nat.{ℕ, zero, suc, ◌+◌, ◌*◌, ◌≤◌, ◌<◌}
use mathlib.Core.Path.{◌≡◌, refl, sym, ap, ◌∙◌, subst}
use mathlib.Core.Logic.{◌⊎◌, inl, inr, ⊎_elim}
use mathlib.Core.Bool.{true, false, false≢true}
use mathlib.Core.Option.{none, some}
use mathlib.Core.List.{List, [], ◌∷◌, map}
use native.Mathlib.Omega.{arith}
use lib.ListN.{length, get_or, drop, length-append, get_or-eq_default}
use lib.Dec.{eqb}
use borrow.Author.Tests.{eq-eqb, ne_eqb}
use Rattle.meaning.specs.Numbers.{In, sum}
use Rattle.meaning.specs.Lists.{member, place, Distinct, distinct_none, distinct_more, Each, each_none, each_more}
use Rattle.meaning.specs.Placement.{Order, depot, Placement, some_posts, LegalDepot, legal_depot, LegalOrder, Legal}
use Rattle.meaning.specs.Full.{FullDepot, Full, whole, full}
use Rattle.meaning.specs.Market.{trainee_list, no_depot, depot_of}
use Rattle.meaning.proofs.Booleans.{true-or-false, none-some}
use Rattle.meaning.proofs.Numbers.{order}
use Rattle.meaning.proofs.Lists.{each_at}
use Rattle.meaning.proofs.Entries.{trainee_entries, depot_entries}
use Rattle.meaning.proofs.Full.{received, FullBack, full_back, full-trainees, full-depots, LegalFull, legal-full}
use Rattle.tables.specs.Cells.{posts_cell, kind_cell, one_order, weightless, cells_of_orders, laid, trainee_start, depot_start, order_start, HeadRoom}
use Rattle.tables.specs.Decode.{order_from, Sides, sides_of, orders_of, placement_with, placement_of}
use Rattle.tables.specs.Answers.{full_sides}
use Rattle.tables.proofs.Series.{three-cells, Single, series-at, series-count}
use Rattle.tables.proofs.One.{order-back}
use Rattle.tables.proofs.Round.{sides-back, sides-count, order-count, orders-back, parts}
use Rattle.tables.proofs.Seen.{ListSeen, DepotSeen, PartSeen, part-seen, SidesSeen, sides-seen}
use Rattle.tables.proofs.Lines.{full-sides}

-- ---- a list in range that names nobody twice, by its places

pub names_in : (hi : ℕ) (l : List ℕ) → Each (In hi) l → (p : ℕ) → p < length l → In hi (get_or l p 0)
names_in hi _ each_none p k = absurd (omega arith)
names_in hi _ (each_more b bs) zero k = b
names_in hi _ (each_more {xs = xs} b bs) (suc p) k = names_in hi xs bs p (omega arith)

absent : (x : ℕ) (l : List ℕ) (p : ℕ) → member x l ≡ false → p < length l → x ≡ get_or l p 0 → ⊥
unfolding member
absent x [] p m k e = omega arith
absent x (y ∷ ys) zero m k e = false≢true (sym (rw (eq-eqb x y e, member) at m))
absent x (y ∷ ys) (suc p) m k e = go (true-or-false (eqb x y)) (λ q. absent x ys p q (omega arith) e)
  where
    go : (eqb x y ≡ true) ⊎ (eqb x y ≡ false) → (member x ys ≡ false → ⊥) → ⊥
    go (inl t) ih = false≢true (sym (rw (t, member) at m))
    go (inr f) ih = ih (rw (f, member) at m)

pub distinct-place : (l : List ℕ) → Distinct l → (p : ℕ) → p < length l → place l (get_or l p 0) ≡ suc p
unfolding place
distinct-place _ distinct_none p k = absurd (omega arith)
distinct-place _ (distinct_more {x = x} {xs = xs} m d) zero k = rw (eq-eqb x x refl, place)
distinct-place _ (distinct_more {x = x} {xs = xs} m d) (suc p) k =
    let w = distinct-place xs d p (omega arith) in
    rw (ne_eqb x (get_or xs p 0) (absent x xs p m (omega arith)), place) (rw w)

-- ---- lists of lists

get_d_map : {A B : Type 0} (g : A → B) (x : A) (y : B) (l : List A) (k : ℕ) → k < length l → get_or (map g l) k y ≡ g (get_or l k x)
get_d_map g x y [] k u = absurd (omega arith)
get_d_map g x y (z ∷ l) zero u = refl
get_d_map g x y (z ∷ l) (suc k) u = get_d_map g x y l k (omega arith)

-- ---- both sides

pub record FullSeen (h e : List ℕ) (F : Full) : Type 0 where
  pub room : HeadRoom h
  pub trainees : get_or h 1 0 ≡ length F.trainees
  pub depots : get_or h 2 0 ≡ length F.depots
  pub trainee : (i : ℕ) → In (get_or h 1 0) i → PartSeen h e (trainee_start i) (trainee_list F i)
  pub depot : (j : ℕ) → In (get_or h 2 0) j → PartSeen h e (depot_start (get_or h 1 0) j) (depot_of F j).list
  pub posts : (j : ℕ) → In (get_or h 2 0) j → get_or h (depot_start (get_or h 1 0) j + 2) 0 ≡ (depot_of F j).posts
  pub few_posts : (j : ℕ) → (depot_of F j).posts ≤ 256
  pub legal : LegalFull F
  pub trainee_entries : sum (length F.trainees) (λ i. length (trainee_list F i)) ≤ 4096
  pub depot_entries : sum (length F.depots) (λ j. length (depot_of F j).list) ≤ 4096

outside : (n k : ℕ) → (In n (suc k) → ⊥) → n ≤ k
outside n k u = ⊎_elim (λ l. l) (λ (l : k < n). absurd (u (record { low = omega arith; high = omega arith }))) (order n k)

-- nobody stands outside the numbers
pub no-trainee : (F : Full) (i : ℕ) → (In (length F.trainees) i → ⊥) → trainee_list F i ≡ []
unfolding trainee_list
no-trainee F zero u = refl
no-trainee F (suc k) u = get_or-eq_default F.trainees [] (outside (length F.trainees) k u)

pub no-depot : (F : Full) (j : ℕ) → (In (length F.depots) j → ⊥) → depot_of F j ≡ no_depot
unfolding depot_of
no-depot F zero u = refl
no-depot F (suc k) u = get_or-eq_default F.depots no_depot (outside (length F.depots) k u)

module _ (h e : List ℕ) (b : Sides) (F : Full) (decoded : sides_of h e ≡ some b) (all : full_sides b ≡ whole F) where
  seen : SidesSeen h e b
  seen = sides-seen h e b decoded

  legal-sides : Legal (placement_with b [])
  legal-sides = (sides-back h e b decoded).legal

  back : FullBack (placement_with b []) F
  unfolding full_sides
  back = full_back (placement_with b []) F all

  trainee-count : get_or h 1 0 ≡ length F.trainees
  unfolding full_sides
  trainee-count = seen.counts.trainees ∙ full-trainees (placement_with b []) F all

  depot-count : get_or h 2 0 ≡ length F.depots
  unfolding full_sides
  depot-count = seen.counts.depots ∙ full-depots (placement_with b []) F all

  its-list : (i : ℕ) → In (get_or h 1 0) i → get_or (none ∷ b.trainees) i none ≡ some (trainee_list F i)
  unfolding trainee_list
  its-list zero u = absurd (omega (arith, u.low))
  its-list (suc k) u =
      let c = trainee-count in
      ap (λ z. get_or z k none) back.trainees ∙ get_d_map some [] none F.trainees k (omega (arith, u.high))

  its-depot : (j : ℕ) → In (get_or h 2 0) j → get_or (depot none none ∷ b.depots) j (depot none none) ≡ received (depot_of F j)
  unfolding depot_of
  its-depot zero u = absurd (omega (arith, u.low))
  its-depot (suc k) u =
      let c = depot-count in
      ap (λ z. get_or z k (depot none none)) back.depots ∙ get_d_map received no_depot (depot none none) F.depots k (omega (arith, u.high))

  trainee_part : (i : ℕ) → In (get_or h 1 0) i → PartSeen h e (trainee_start i) (trainee_list F i)
  trainee_part i u = part-seen (get_or h 2 0) (trainee_start i) h e (trainee_list F i) (subst (ListSeen (get_or h 2 0) (trainee_start i) h e) (its-list i u) (seen.trainee i u))

  -- the depot's cells, with posts and list received
  record DepotCells (j : ℕ) : Type 0 where
    part : PartSeen h e (depot_start (get_or h 1 0) j) (depot_of F j).list
    posts : get_or h (depot_start (get_or h 1 0) j + 2) 0 ≡ (depot_of F j).posts

  depot-cells : (j : ℕ) → In (get_or h 2 0) j → DepotCells j
  unfolding posts_cell
  depot-cells j u = go (seen.depot j u)
    where
      go : DepotSeen (get_or h 1 0) (depot_start (get_or h 1 0) j) h e (get_or (depot none none ∷ b.depots) j (depot none none)) → DepotCells j
      go d =
          let q : depot d.posts d.list ≡ received (depot_of F j) = sym d.is ∙ its-depot j u in
          let p : d.posts ≡ some (depot_of F j).posts = cc in
          let l : d.list ≡ some (depot_of F j).list = cc in
          record {
            part = part-seen (get_or h 1 0) (depot_start (get_or h 1 0) j) h e (depot_of F j).list (subst (ListSeen (get_or h 1 0) (depot_start (get_or h 1 0) j) h e) l d.list-seen);
            posts = d.posts-cell ∙ ap posts_cell p;
          }

  posts-in : (n : ℕ) (ds : List FullDepot) → Each (LegalDepot n) (map received ds) → Each (λ (d : FullDepot). d.posts ≤ 256) ds
  posts-in n [] each_none = each_none
  posts-in n (d ∷ ds) (each_more (legal_depot (some_posts k) l) es) = each_more k (posts-in n ds es)

  few-posts-of : (j : ℕ) → (depot_of F j).posts ≤ 256
  unfolding depot_of
  few-posts-of j = each_at (no_depot ∷ F.depots) (each_more (omega arith) (posts-in _ F.depots (subst (Each (LegalDepot _)) back.depots legal-sides.depots))) no_depot (omega arith) j

  legal-lists : LegalFull F
  unfolding full_sides
  legal-lists = legal-full (placement_with b []) F legal-sides all

  pub full-seen : FullSeen h e F
  unfolding full_sides
  full-seen = record {
    room = seen.room;
    trainees = trainee-count;
    depots = depot-count;
    trainee = trainee_part;
    depot = λ j u. (depot-cells j u).part;
    posts = λ j u. (depot-cells j u).posts;
    few_posts = few-posts-of;
    legal = legal-lists;
    trainee_entries = trainee_entries (placement_with b []) F legal-sides all;
    depot_entries = depot_entries (placement_with b []) F legal-sides all;
  }

-- ---- orders

pub record OrderSeen (n m at : ℕ) (o : List ℕ) (x : Order) : Type 0 where
  pub kind : get_or o at 0 ≡ kind_cell x.kind
  pub trainee : get_or o (at + 1) 0 ≡ x.trainee
  pub depot : get_or o (at + 2) 0 ≡ x.depot
  pub legal : LegalOrder n m x

-- the orders counted from 0, each with cells of its own
pub record OrdersSeen (n m : ℕ) (o : List ℕ) (xs : List Order) : Type 0 where
  pub count : get_or o 0 0 ≡ length xs
  pub cells : 1 + 3 * length xs ≤ length o
  pub order : (x : Order) (k : ℕ) → k < length xs → OrderSeen n m (order_start k) o (get_or xs k x)

order-seen : (n m at : ℕ) (o : List ℕ) (x : Order) → at + 2 < length o → Single (order_from n m) o [] at x → OrderSeen n m at o x
unfolding one_order
order-seen n m at o x k s =
    let r = order-back n m s.start (drop at o) (drop s.start []) x s.here in
    let t = sym (three-cells o at k) ∙ r.1 in
    record { kind = cc; trainee = cc; depot = cc; legal = r.0 }

orders-room : (n m : ℕ) (o : List ℕ) (xs : List Order) → orders_of n m o ≡ some xs → 1 + 3 * length xs ≤ length o
unfolding laid
orders-room n m o xs q =
    let x = ap length (orders-back n m o xs q).cells ∙ length-append (cells_of_orders xs) _ in
    omega (arith, order-count xs)

pub orders-seen : (n m : ℕ) (o : List ℕ) (xs : List Order) → orders_of n m o ≡ some xs → OrdersSeen n m o xs
unfolding orders_of weightless
orders-seen n m [] xs q = none-some q
orders-seen n m (c ∷ os) xs q =
    let l = orders-room n m (c ∷ os) xs q in
    let d = series-count (order_from n m) weightless 3 c 0 os [] xs q in
    record {
      count = sym d;
      cells = l;
      order = λ x k u.
          let z : 1 + 3 * k ≡ order_start k = omega arith in
          let s = series-at (order_from n m) weightless 3 (c ∷ os) [] x (λ s hs es a z. omega arith) c 1 0 xs (omega arith) q k (omega arith) in
          order-seen n m (order_start k) (c ∷ os) (get_or xs k x) (omega arith) (subst (λ at. Single (order_from n m) (c ∷ os) [] at (get_or xs k x)) z s);
    }

-- ---- the three tables

pub record TablesSeen (h e o : List ℕ) (F : Full) (xs : List Order) : Type 0 where
  pub sides : FullSeen h e F
  pub orders : OrdersSeen (length F.trainees) (length F.depots) o xs
  pub few_orders : length xs ≤ 1024

pub tables-seen : (h e o : List ℕ) (p : Placement) (F : Full) → placement_of h e o ≡ some p → full p ≡ whole F → TablesSeen h e o F p.orders
tables-seen h e o p F k w =
    let q = parts h e o p k in
    let all : full_sides q.sides ≡ whole F = sym (full-sides h e o p k) ∙ w in
    let s = full-seen h e q.sides F q.sides-of all in
    subst (TablesSeen h e o F) (ap (λ z. z.orders) q.is)
    (record {
      sides = s;
      orders =
          subst (λ n. OrdersSeen n (length F.depots) o q.orders) (sym (sides-count h e q.sides q.sides-of).trainees ∙ s.trainees)
          (subst (λ m. OrdersSeen (length q.sides.trainees) m o q.orders) (sym (sides-count h e q.sides q.sides-of).depots ∙ s.depots)
          (orders-seen (length q.sides.trainees) (length q.sides.depots) o q.orders q.orders-of));
      few_orders = q.few;
    })
