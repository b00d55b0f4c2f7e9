-- Tables there and back: the decoder gives a placement exactly if the tables' fronts are the cells of a legal one.
-- Assumes nothing.
use Prim.Native.Nat.{ℕ, ◌+◌, ◌*◌, ◌≤◌}
use mathlib.Core.Path.{◌≡◌, refl, sym, ap, ap₂, ◌∙◌, subst}
use mathlib.Core.Bool.{true}
use mathlib.Core.Option.{Option, none, some}
use mathlib.Core.List.{List, [], ◌∷◌, ◌++◌, append_assoc}
use native.Mathlib.Omega.{arith}
use lib.ListN.{length, get_or, drop, length-append}
use lib.Seq.{drop_at, drop-append_seam}
use lib.Dec.{leb, eqb}
use borrow.Author.Tests.{leb-true, eqb-true, le-leb, eq-eqb}
use Rattle.meaning.specs.Lists.{Each, each_none, weigh}
use Rattle.meaning.specs.Placement.{Order, Depot, Placement, size, depot_size, LegalList, LegalDepot, LegalOrder, Legal}
use Rattle.meaning.proofs.Booleans.{and_intro, and_left, and_right, some-own, none-some}
use Rattle.tables.proofs.Tests.{went, goes, when-back, when-goes}
use Rattle.tables.specs.Cells.{list_cells, trainee_cells, depot_cells, depot_list_cells, one_order, series_cells, joined, weightless, head_cells, entry_cells, cells_of_orders, order_cells, laid, Holds}
use Rattle.tables.specs.Decode.{next, trainee_from, depot_from, order_from, series_from, trainees_from, depots_from, limits, Sides, lists_from, sides_of, orders_of, few_orders_of, placement_with, placement_of}
use Rattle.tables.proofs.Series.{series-cells, joined-weigh, series-there, series-back}
use Rattle.tables.proofs.One.{trainee-wide, entries-weigh, trainee-there, trainee-back, depot-wide, depot-weigh, depot-there, depot-back, no_cells, order-wide, order-weigh, order-there, order-back}

laid-front : (cells d r : List ℕ) → d ≡ cells ++ r → d ≡ laid cells d
unfolding laid
laid-front cells d r e = rw e (ap (λ z. cells ++ z) (sym (drop-append_seam cells r)))

pub laid-is : (cells d : List ℕ) → laid cells d ≡ cells ++ drop (length cells) d
unfolding laid
laid-is cells d = refl

-- ---- the limits

limits-there : (ed n m : ℕ) → ed ≡ 1 → n ≤ 256 → m ≤ 64 → limits ed n m ≡ true
unfolding limits
limits-there ed n m he hn hm = and_intro (eq-eqb ed 1 he) (and_intro (le-leb n 256 hn) (le-leb m 64 hm))

pub record Limits (ed n m : ℕ) : Type 0 where
  pub edition : ed ≡ 1
  pub few_trainees : n ≤ 256
  pub few_depots : m ≤ 64

pub limits-back : (ed n m : ℕ) → limits ed n m ≡ true → Limits ed n m
unfolding limits
limits-back ed n m h =
    let t = and_right (eqb ed 1) _ h in
    record {
      edition = eqb-true ed 1 (and_left _ _ h);
      few_trainees = leb-true n 256 (and_left _ _ t);
      few_depots = leb-true m 64 (and_right (leb n 256) _ t);
    }

-- ---- both sides

module _ (ed : ℕ) (ts : List (Option (List ℕ))) (ds : List Depot) (few-n : length ts ≤ 256) (few-m : length ds ≤ 64)
    (lt : Each (LegalList (length ds)) ts) (wt : weigh size ts ≤ 4096) (ld : Each (LegalDepot (length ts)) ds) (wd : weigh depot_size ds ≤ 4096) (x y : List ℕ) where
  abbrev tc : List ℕ
  tc = series_cells size trainee_cells 0 ts

  abbrev dc : List ℕ
  dc = series_cells depot_size depot_cells (weigh size ts) ds

  abbrev te : List ℕ
  te = joined list_cells ts

  abbrev de : List ℕ
  de = joined depot_list_cells ds

  lists-there : lists_from ed (length ts) (length ds) ((tc ++ dc) ++ x) ((te ++ de) ++ y) ≡ some (record { edition = ed; trainees = ts; depots = ds })
  unfolding lists_from next
  lists-there =
      rw (
        append_assoc tc dc x,
        append_assoc te de y,
        series-there (trainee_from (length ds)) size 2 trainee_cells list_cells (LegalList (length ds)) trainee-wide entries-weigh (trainee-there (length ds) few-m) 0 ts (dc ++ x) (de ++ y) lt,
      )
      (when-goes _ _ (le-leb _ _ wt)
      ∙ rw (
        drop_at tc (dc ++ x) (2 * length ts) (series-cells size 2 trainee_cells trainee-wide 0 ts),
        drop_at te (de ++ y) (weigh size ts) (joined-weigh size list_cells entries-weigh ts),
        series-there (depot_from (length ts)) depot_size 3 depot_cells depot_list_cells (LegalDepot (length ts)) depot-wide depot-weigh (depot-there (length ts) few-n) (weigh size ts) ds x y ld,
      )
      (when-goes _ _ (le-leb _ _ wd)))

abbrev pub sides_in : Placement → Sides
sides_in p = record { edition = p.edition; trainees = p.trainees; depots = p.depots }

-- the head and entry cells of a legal placement, laid over anything, decode to its sides
pub sides-there : (p : Placement) → Legal p → (x y : List ℕ) → sides_of (head_cells p ++ x) (entry_cells p ++ y) ≡ some (sides_in p)
unfolding sides_of head_cells entry_cells
sides-there p g x y =
    when-goes _ _ (limits-there _ _ _ g.edition g.n g.m)
    ∙ lists-there p.edition p.trainees p.depots g.n g.m g.trainees g.trainee_entries g.depots g.depot_entries x y

-- sides without orders are a placement too
pub record HoldsSides (b : Sides) (h e : List ℕ) : Type 0 where
  pub legal : Legal (placement_with b [])
  pub heads : h ≡ laid (head_cells (placement_with b [])) h
  pub entries : e ≡ laid (entry_cells (placement_with b [])) e

-- what decodes is legal, and the fronts of heads and entries are its cells
pub sides-back : (h e : List ℕ) (b : Sides) → sides_of h e ≡ some b → HoldsSides b h e
unfolding sides_of lists_from head_cells entry_cells
sides-back [] e b k = none-some k
sides-back (ed ∷ []) e b k = none-some k
sides-back (ed ∷ n ∷ []) e b k = none-some k
sides-back (ed ∷ n ∷ m ∷ hs) e b k =
    let a = when-back (limits ed n m) _ k in
    let t = went (trainees_from n m hs e) _ a.1 in
    let ts = t.value in
    let u = when-back (leb (weigh size ts) 4096) _ t.on in
    let d = went (depots_from n m (weigh size ts) (drop (2 * n) hs) (drop (weigh size ts) e)) _ u.1 in
    let ds = d.value in
    let f = when-back (leb (weigh depot_size ds) 4096) _ d.on in
    let T = series-back (trainee_from m) size 2 trainee_cells list_cells (LegalList m) trainee-wide entries-weigh (trainee-back m) n 0 hs e ts t.here in
    let D = series-back (depot_from n) depot_size 3 depot_cells depot_list_cells (LegalDepot n) depot-wide depot-weigh (depot-back n) m (weigh size ts) (drop (2 * n) hs) (drop (weigh size ts) e) ds d.here in
    let l = limits-back ed n m a.0 in
    let N = T.count in
    let M = D.count in
    subst (λ q. HoldsSides q (ed ∷ n ∷ m ∷ hs) e) (some-own f.1)
    (record {
      legal = record {
        edition = l.edition;
        n = omega (arith, l.few_trainees);
        m = omega (arith, l.few_depots);
        trainees = subst (λ q. Each (LegalList q) ts) (sym M) T.legal;
        trainee_entries = leb-true _ _ u.0;
        depots = subst (λ q. Each (LegalDepot q) ds) (sym N) D.legal;
        depot_entries = leb-true _ _ f.0;
        orders = each_none;
        few_orders = omega arith;
      };
      heads = laid-front _ _ (drop (3 * m) (drop (2 * n) hs))
          (ap₂ (λ u v. ed ∷ u ∷ v ∷ hs) (sym N) (sym M)
          ∙ ap (λ z. ed ∷ length ts ∷ length ds ∷ z) (T.heads ∙ ap (λ z. series_cells size trainee_cells 0 ts ++ z) D.heads ∙ sym (append_assoc (series_cells size trainee_cells 0 ts) _ _)));
      entries = laid-front _ _ (drop (weigh depot_size ds) (drop (weigh size ts) e))
          (T.rest ∙ ap (λ z. joined list_cells ts ++ z) D.rest ∙ sym (append_assoc (joined list_cells ts) _ _));
    })

-- the first three cells
pub record Counts (h : List ℕ) (b : Sides) : Type 0 where
  pub edition : get_or h 0 0 ≡ b.edition
  pub trainees : get_or h 1 0 ≡ length b.trainees
  pub depots : get_or h 2 0 ≡ length b.depots

pub sides-count : (h e : List ℕ) (b : Sides) → sides_of h e ≡ some b → Counts h b
unfolding head_cells laid
sides-count h e b k =
    let q = (sides-back h e b k).heads in
    record { edition = ap (λ z. get_or z 0 0) q; trainees = ap (λ z. get_or z 1 0) q; depots = ap (λ z. get_or z 2 0) q }

-- ---- orders

no-entries : (xs : List Order) → joined no_cells xs ++ [] ≡ []
unfolding joined no_cells
no-entries [] = refl
no-entries (x ∷ xs) = no-entries xs

pub orders-there : (n m : ℕ) (xs : List Order) (z : List ℕ) → Each (LegalOrder n m) xs → orders_of n m (cells_of_orders xs ++ z) ≡ some xs
unfolding orders_of cells_of_orders
orders-there n m xs z a =
    ap (λ q. series_from (order_from n m) weightless 3 (length xs) 0 (series_cells weightless one_order 0 xs ++ z) q) (sym (no-entries xs))
    ∙ series-there (order_from n m) weightless 3 one_order no_cells (LegalOrder n m) order-wide order-weigh (order-there n m) 0 xs z [] a

pub record HoldsOrders (n m : ℕ) (xs : List Order) (o : List ℕ) : Type 0 where
  pub legal : Each (LegalOrder n m) xs
  pub cells : o ≡ laid (cells_of_orders xs) o

pub orders-back : (n m : ℕ) (o : List ℕ) (xs : List Order) → orders_of n m o ≡ some xs → HoldsOrders n m xs o
unfolding orders_of cells_of_orders
orders-back n m [] xs k = none-some k
orders-back n m (c ∷ os) xs k =
    let X = series-back (order_from n m) weightless 3 one_order no_cells (LegalOrder n m) order-wide order-weigh (order-back n m) c 0 os [] xs k in
    record { legal = X.legal; cells = laid-front _ _ (drop (3 * c) os) (ap₂ (λ u v. u ∷ v) (sym X.count) X.heads) }

few-orders-there : (n m : ℕ) (xs : List Order) (z : List ℕ) → Each (LegalOrder n m) xs → length xs ≤ 1024 → few_orders_of n m (cells_of_orders xs ++ z) ≡ some xs
unfolding few_orders_of
few-orders-there n m xs z a f = goes _ _ _ (orders-there n m xs z a) ∙ when-goes _ _ (le-leb _ _ f)

-- ---- how many cells are used

pub head-count : (p : Placement) → length (head_cells p) ≡ 3 + 2 * length p.trainees + 3 * length p.depots
unfolding head_cells
head-count p =
    let x = series-cells size 2 trainee_cells trainee-wide 0 p.trainees in
    let y = series-cells depot_size 3 depot_cells depot-wide (weigh size p.trainees) p.depots in
    let z = length-append (series_cells size trainee_cells 0 p.trainees) (series_cells depot_size depot_cells (weigh size p.trainees) p.depots) in
    omega arith

pub entry-count : (p : Placement) → length (entry_cells p) ≡ weigh size p.trainees + weigh depot_size p.depots
unfolding entry_cells
entry-count p =
    length-append (joined list_cells p.trainees) (joined depot_list_cells p.depots)
    ∙ ap₂ ◌+◌ (joined-weigh size list_cells entries-weigh p.trainees) (joined-weigh depot_size depot_list_cells depot-weigh p.depots)

pub order-count : (xs : List Order) → length (cells_of_orders xs) ≡ 1 + 3 * length xs
unfolding cells_of_orders
order-count xs = let x = series-cells weightless 3 one_order order-wide 0 xs in omega arith

-- the cells of a legal placement fit in tables of the full sizes
pub record Fit (p : Placement) : Type 0 where
  pub heads : length (head_cells p) ≤ 707
  pub entries : length (entry_cells p) ≤ 8192
  pub orders : length (order_cells p) ≤ 3073

pub cells_fit : (p : Placement) → Legal p → Fit p
cells_fit p g =
    let x = head-count p in
    let y = entry-count p in
    let z = order-count p.orders in
    record { heads = omega (arith, g.n, g.m); entries = omega (arith, g.trainee_entries, g.depot_entries); orders = omega (arith, g.few_orders) }

-- ---- the three tables

-- the cells of a legal placement, with anything behind them, decode to it
pub tables-there : (p : Placement) → Legal p → (x y z : List ℕ) → placement_of (head_cells p ++ x) (entry_cells p ++ y) (order_cells p ++ z) ≡ some p
unfolding placement_of
tables-there p g x y z =
    goes _ _ _ (sides-there p g x y)
    ∙ goes _ _ _ (few-orders-there (length p.trainees) (length p.depots) p.orders z g.orders g.few_orders)

-- laid over any tables, they decode to it
pub laid-there : (p : Placement) → Legal p → (h e o : List ℕ) → placement_of (laid (head_cells p) h) (laid (entry_cells p) e) (laid (order_cells p) o) ≡ some p
unfolding laid
laid-there p g h e o = tables-there p g _ _ _

pub record Parts (h e o : List ℕ) (p : Placement) : Type 0 where
  pub sides : Sides
  pub orders : List Order
  pub is : placement_with sides orders ≡ p
  pub sides-of : sides_of h e ≡ some sides
  pub orders-of : orders_of (length sides.trainees) (length sides.depots) o ≡ some orders
  pub few : length orders ≤ 1024

pub parts : (h e o : List ℕ) (p : Placement) → placement_of h e o ≡ some p → Parts h e o p
unfolding placement_of few_orders_of
parts h e o p k =
    let b = went (sides_of h e) _ k in
    let f = went (few_orders_of (length b.value.trainees) (length b.value.depots) o) _ b.on in
    let x = went (orders_of (length b.value.trainees) (length b.value.depots) o) _ f.here in
    let w = when-back (leb (length x.value) 1024) _ x.on in
    record {
      sides = b.value;
      orders = x.value;
      is = ap (placement_with b.value) (some-own w.1) ∙ some-own f.on;
      sides-of = b.here;
      orders-of = x.here;
      few = leb-true _ _ w.0;
    }

-- what decodes is legal, and the tables' fronts are its cells
pub tables-back : (h e o : List ℕ) (p : Placement) → placement_of h e o ≡ some p → Holds p h e o
unfolding head_cells entry_cells
tables-back h e o p k =
    let q = parts h e o p k in
    let b = sides-back h e q.sides q.sides-of in
    let x = orders-back (length q.sides.trainees) (length q.sides.depots) o q.orders q.orders-of in
    let l = b.legal in
    subst (λ q. Holds q h e o) q.is
    (record {
      legal = record {
        edition = l.edition;
        n = l.n;
        m = l.m;
        trainees = l.trainees;
        trainee_entries = l.trainee_entries;
        depots = l.depots;
        depot_entries = l.depot_entries;
        orders = x.legal;
        few_orders = q.few;
      };
      heads = b.heads;
      entries = b.entries;
      orders = x.cells;
    })

pub held-decodes : (h e o : List ℕ) (p : Placement) → Holds p h e o → placement_of h e o ≡ some p
held-decodes h e o p k =
    ap (λ z. placement_of z e o) k.heads
    ∙ ap₂ (λ y z. placement_of (laid (head_cells p) h) y z) k.entries k.orders
    ∙ laid-there p k.legal h e o

-- tables hold one placement at most
pub held-once : (h e o : List ℕ) (p q : Placement) → Holds p h e o → Holds q h e o → p ≡ q
held-once h e o p q j k = some-own (sym (held-decodes h e o p j) ∙ held-decodes h e o q k)

-- number 8: nothing is decoded exactly if no legal placement has these fronts
pub refused-exactly : (h e o : List ℕ) → (placement_of h e o ≡ none → (p : Placement) → Holds p h e o → ⊥) × (((p : Placement) → Holds p h e o → ⊥) → placement_of h e o ≡ none)
refused-exactly h e o = (λ n p k. none-some (sym n ∙ held-decodes h e o p k), λ f. go (placement_of h e o) refl f)
  where
    go : (q : Option Placement) → placement_of h e o ≡ q → ((p : Placement) → Holds p h e o → ⊥) → q ≡ none
    go none k f = refl
    go (some p) k f = absurd (f p (tables-back h e o p k))
