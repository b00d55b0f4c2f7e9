-- The text that the tables' cells say is that of the placement that they hold.
-- Assumes nothing.
use Prim.Native.Nat.{ℕ, suc, ◌+◌, ◌*◌, ◌≤◌, ◌<◌}
use mathlib.Core.Path.{◌≡◌, refl, sym, ap, ap₂, ◌∙◌, subst}
use mathlib.Core.Bool.{true}
use mathlib.Core.Option.{Option, none, some}
use mathlib.Core.List.{List, [], ◌∷◌, ◌++◌}
use native.Mathlib.Omega.{arith}
use native.Mathlib.Nat.{add-zero}
use lib.ListN.{length, get_or}
use borrow.Author.Tests.{eq-eqb, ne_eqb}
use Rattle.meaning.specs.Numbers.{In}
use Rattle.meaning.specs.Placement.{Kind, held, barred, Order, Depot, depot, Placement, LegalList, a_list, LegalPosts, no_posts, some_posts}
use Rattle.meaning.proofs.Booleans.{never}
use Rattle.fields.specs.Writer.{write_lines}
use Rattle.tables.specs.Cells.{missing_cell, posts_cell, length_cell, kind_cell, trainee_start, depot_start, order_start}
use Rattle.tables.specs.Decode.{Sides, placement_of}
use Rattle.tables.specs.Walk.{is_some}
use Rattle.tables.proofs.Seen.{ListSeen, DepotSeen, part-seen, SidesSeen, sides-seen}
use Rattle.tables.proofs.Views.{OrderSeen, OrdersSeen, orders-seen}
use Rattle.tables.proofs.Round.{Parts, parts, tables-back}
use Rattle.placement_text.specs.Writer.{write_trainee, write_depot, write_orders, write_head, write_end, above_end, text_of}
use Rattle.placement_text.proofs.Short.{text-short}
use Rattle.placement_writer.specs.Held.{number_in, list_in, depot_in, kind_in, order_in, run, ListRoom}

-- ---- one list, one number of posts, one order

module _ (hi at : ℕ) (h e : List ℕ) where
  pub list_held : (l : Option (List ℕ)) → hi ≤ 256 → ListSeen hi at h e l → list_in h e at ≡ l
  unfolding list_in length_cell
  list_held none few s = rw (eq-eqb (get_or h (at + 1) 0) missing_cell s.back.cell, list_in)
  list_held (some l) few s =
      let n : length l ≤ hi = short s.back.legal in
      rw (ne_eqb (get_or h (at + 1) 0) missing_cell (λ m. let c = s.back.cell in omega arith), list_in) (ap some (part-seen hi at h e l s).is)
    where
      short : {l : List ℕ} → LegalList hi (some l) → length l ≤ hi
      short (a_list g) = g.short

  pub list-room : (l : Option (List ℕ)) → at + 1 < length h → ListSeen hi at h e l → ListRoom h e at
  unfolding length_cell
  list-room none c s = record { cells = c; fits = λ m. absurd (m s.back.cell) }
  list-room (some l) c s = record { cells = c; fits = λ m. (part-seen hi at h e l s).fits }

posts-held : (v : ℕ) (o : Option ℕ) → LegalPosts o → v ≡ posts_cell o → number_in v ≡ o
unfolding number_in posts_cell
posts-held v _ no_posts e = rw (eq-eqb v missing_cell e, number_in)
posts-held v _ (some_posts {p = p} f) e = rw (ne_eqb v missing_cell (λ m. omega arith), number_in) (ap some e)

pub depot-held : (n at : ℕ) (h e : List ℕ) (d : Depot) → n ≤ 256 → DepotSeen n at h e d → depot_in h e at ≡ d
unfolding depot_in
depot-held n at h e d few s =
    ap₂ depot (posts-held (get_or h (at + 2) 0) s.posts s.posts-legal s.posts-cell) (list_held n at h e s.list few s.list-seen) ∙ sym s.is

kind-back : (k : Kind) → kind_in (kind_cell k) ≡ k
unfolding kind_in kind_cell
kind-back held = refl
kind-back barred = refl

pub order-held : (n m at : ℕ) (o : List ℕ) (x : Order) → OrderSeen n m at o x → order_in o at ≡ x
unfolding order_in
order-held n m at o x s =
    let k : kind_in (get_or o at 0) ≡ x.kind = ap kind_in s.kind ∙ kind-back x.kind in
    λ i. record { kind = k i; trainee = s.trainee i; depot = s.depot i }

-- ---- all of them

run_is : {A : Type 0} (xs : List A) (d : A) (f : ℕ → A) (i : ℕ) → ((k : ℕ) → k < length xs → f (i + k) ≡ get_or xs k d) → run f (length xs) i ≡ xs
unfolding run
run_is [] d f i h = refl
run_is (x ∷ xs) d f i h =
    ap₂ (λ y ys. y ∷ ys) (ap f (sym (add-zero i)) ∙ h 0 (omega arith))
    (run_is xs d f (i + 1) (λ k l. let e : i + 1 + k ≡ i + suc k = omega arith in ap f e ∙ h (suc k) (omega arith)))

behind : {A : Type 0} (d : A) (xs : List A) (k : ℕ) → get_or (d ∷ xs) (1 + k) d ≡ get_or xs k d
behind d xs k = let e : 1 + k ≡ suc k = omega arith in rw e

-- what the cells say, as a text, with n trainees, m depots and c orders
unfoldable pub text_in : List ℕ → List ℕ → List ℕ → ℕ → ℕ → ℕ → List ℕ
text_in h e o n m c =
    write_head 1 n m
    ++ write_lines write_trainee 1 (run (λ i. list_in h e (trainee_start i)) n 1)
    ++ write_lines write_depot 1 (run (λ j. depot_in h e (depot_start n j)) m 1)
    ++ write_orders (run (λ k. order_in o (order_start k)) c 0)
    ++ write_end

pub record Held (h e o : List ℕ) : Type 0 where
  pub it : Placement
  pub decoded : placement_of h e o ≡ some it

pub held-is : (h e o : List ℕ) → is_some (placement_of h e o) ≡ true → Held h e o
held-is h e o t = go (placement_of h e o) refl t
  where
    go : (q : Option Placement) → placement_of h e o ≡ q → is_some q ≡ true → Held h e o
    go none k t = absurd (never t refl)
    go (some p) k t = record { it = p; decoded = k }

module _ (h e o : List ℕ) (p : Placement) (k : placement_of h e o ≡ some p) where
  abbrev Q : Parts h e o p
  Q = parts h e o p k

  abbrev S : SidesSeen h e Q.sides
  S = sides-seen h e Q.sides Q.sides-of

  abbrev O : OrdersSeen (length Q.sides.trainees) (length Q.sides.depots) o Q.orders
  O = orders-seen (length Q.sides.trainees) (length Q.sides.depots) o Q.orders Q.orders-of

  trainees-held : run (λ i. list_in h e (trainee_start i)) (get_or h 1 0) 1 ≡ Q.sides.trainees
  trainees-held =
      let n : get_or h 1 0 ≡ length Q.sides.trainees = S.counts.trainees in
      ap (λ z. run (λ i. list_in h e (trainee_start i)) z 1) n
      ∙ run_is Q.sides.trainees none (λ i. list_in h e (trainee_start i)) 1
      (λ k l. list_held (get_or h 2 0) (trainee_start (1 + k)) h e _ (let m = S.room.few_depots in omega arith) (S.trainee (1 + k) (record { low = omega arith; high = omega arith }))
      ∙ behind none Q.sides.trainees k)

  depots-held : run (λ j. depot_in h e (depot_start (get_or h 1 0) j)) (get_or h 2 0) 1 ≡ Q.sides.depots
  depots-held =
      let m : get_or h 2 0 ≡ length Q.sides.depots = S.counts.depots in
      ap (λ z. run (λ j. depot_in h e (depot_start (get_or h 1 0) j)) z 1) m
      ∙ run_is Q.sides.depots (depot none none) (λ j. depot_in h e (depot_start (get_or h 1 0) j)) 1
      (λ k l. depot-held (get_or h 1 0) (depot_start (get_or h 1 0) (1 + k)) h e _ S.room.few_trainees (S.depot (1 + k) (record { low = omega arith; high = omega arith }))
      ∙ behind (depot none none) Q.sides.depots k)

  orders-held : run (λ k. order_in o (order_start k)) (get_or o 0 0) 0 ≡ Q.orders
  orders-held =
      ap (λ z. run (λ k. order_in o (order_start k)) z 0) O.count
      ∙ run_is Q.orders no_order (λ k. order_in o (order_start k)) 0
      (λ k l. let z : 0 + k ≡ k = omega arith in ap (λ q. order_in o (order_start q)) z ∙ order-held _ _ (order_start k) o _ (O.order no_order k l))
    where
      no_order : Order
      no_order = record { kind = held; trainee = 0; depot = 0 }

  text-held : text_in h e o (get_or h 1 0) (get_or h 2 0) (get_or o 0 0) ≡ text_of p
  unfolding text_in text_of above_end
  text-held =
      let b : Sides = Q.sides in
      let n : get_or h 1 0 ≡ length b.trainees = S.counts.trainees in
      let m : get_or h 2 0 ≡ length b.depots = S.counts.depots in
      let ed : 1 ≡ b.edition = sym (ap (λ z. z.edition) Q.is ∙ (tables-back h e o p k).legal.edition) in
      (λ i. write_head (ed i) (n i) (m i) ++ write_lines write_trainee 1 (trainees-held i) ++ write_lines write_depot 1 (depots-held i) ++ write_orders (orders-held i) ++ write_end)
      ∙ ap text_of Q.is

-- everything that is written has its cells, and the text has room
pub record Ready (h e o : List ℕ) (n m c : ℕ) : Type 0 where
  pub few_trainees : n ≤ 256
  pub few_depots : m ≤ 64
  pub few_orders : c ≤ 1024
  pub heads : 3 + 2 * n + 3 * m ≤ length h
  pub orders : 1 + 3 * c ≤ length o
  pub trainee : (i : ℕ) → In n i → ListRoom h e (trainee_start i)
  pub depot : (j : ℕ) → In m j → ListRoom h e (depot_start n j)
  pub short : length (text_in h e o n m c) ≤ 65536
  pub text : (p : Placement) → placement_of h e o ≡ some p → text_in h e o n m c ≡ text_of p

module _ (h e o : List ℕ) (t : is_some (placement_of h e o) ≡ true) where
  ready-cells : Ready h e o (get_or h 1 0) (get_or h 2 0) (get_or o 0 0)
  ready-cells =
      let H = held-is h e o t in
      let p : Placement = H.it in
      let k : placement_of h e o ≡ some p = H.decoded in
      let s = S h e o p k in
      let x = O h e o p k in
      let q = Q h e o p k in
      let l : length (text_in h e o (get_or h 1 0) (get_or h 2 0) (get_or o 0 0)) ≡ length (text_of p) = ap length (text-held h e o p k) in
      let r = s.room.cells in
      let y = x.count in
      let z = x.cells in
      let f = q.few in
      record {
        few_trainees = s.room.few_trainees;
        few_depots = s.room.few_depots;
        few_orders = omega arith;
        heads = r;
        orders = omega arith;
        trainee = λ i w. let u = w.high in list-room (get_or h 2 0) (trainee_start i) h e _ (omega arith) (s.trainee i w);
        depot = λ j w. let u = w.high in list-room (get_or h 1 0) (depot_start (get_or h 1 0) j) h e _ (omega arith) (s.depot j w).list-seen;
        short = omega (arith, text-short p (tables-back h e o p k).legal);
        text = λ p' k'. text-held h e o p' k';
      }

  pub ready : {n m c : ℕ} → n ≡ get_or h 1 0 → m ≡ get_or h 2 0 → c ≡ get_or o 0 0 → Ready h e o n m c
  ready {n} {m} {c} x y z =
      subst (λ w. Ready h e o w m c) (sym x) (subst (λ w. Ready h e o (get_or h 1 0) w c) (sym y) (subst (λ w. Ready h e o (get_or h 1 0) (get_or h 2 0) w) (sym z) ready-cells))

  pub head-cells : 2 < length h
  head-cells = let r = ready-cells.heads in omega arith

  pub order-cells : 0 < length o
  order-cells = let r = ready-cells.orders in omega arith
