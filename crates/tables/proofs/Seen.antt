-- What heads and entries that decode say of each trainee and each depot, read off their own cells. Assumes nothing.
use Prim.Native.Nat.{ℕ, zero, suc, ◌+◌, ◌*◌, ◌≤◌, ◌<◌}
use mathlib.Core.Path.{◌≡◌, sym, ap, ap₂, ◌∙◌, subst}
use mathlib.Core.Option.{Option, none, some}
use mathlib.Core.List.{List, [], ◌∷◌, ◌++◌}
use native.Mathlib.Omega.{arith}
use lib.ListN.{length, get_or, take, drop, length-append, length-drop}
use lib.Seq.{drop-drop, take-append_seam}
use lib.Dec.{leb, eqb}
use borrow.Author.Tests.{eqb-true}
use Rattle.meaning.specs.Numbers.{In}
use Rattle.meaning.specs.Lists.{weigh}
use Rattle.meaning.specs.Placement.{Depot, depot, size, depot_size, LegalList, LegalPosts}
use Rattle.meaning.proofs.Booleans.{some-own, none-some}
use Rattle.tables.specs.Cells.{posts_cell, length_cell, part, list_cells, trainee_cells, depot_list_cells, joined, head_cells, laid, trainee_start, depot_start, HeadRoom}
use Rattle.tables.specs.Decode.{next, list_from, posts_from, trainee_from, depot_from, trainees_from, depots_from, limits, Sides, lists_from, sides_of, placement_with}
use Rattle.tables.proofs.Tests.{went, when-back}
use Rattle.tables.proofs.Series.{joined-weigh, series-back, two_cells, three-cells, Single, series-at}
use Rattle.tables.proofs.One.{ListBack, list_back, posts-back, trainee-wide, entries-weigh, trainee-back, depot-weigh, depot-back}
use Rattle.tables.proofs.Round.{head-count, sides-back, Counts, sides-count}

-- ---- one list, one depot

-- the cells at `at` say where the list l begins, and how long it is
pub record ListSeen (hi at : ℕ) (h e : List ℕ) (l : Option (List ℕ)) : Type 0 where
  pub within : get_or h at 0 ≤ length e
  pub back : ListBack hi (get_or h (at + 1) 0) (drop (get_or h at 0) e) l

seen-from : (hi at s : ℕ) (h e : List ℕ) (l : Option (List ℕ)) → s ≤ length e → get_or h at 0 ≡ s → list_from hi (get_or h (at + 1) 0) (drop s e) ≡ some l → ListSeen hi at h e l
seen-from hi at s h e l u x q =
    record { within = omega arith; back = list_back hi (get_or h (at + 1) 0) (drop (get_or h at 0) e) l (ap (λ i. list_from hi (get_or h (at + 1) 0) (drop i e)) x ∙ q) }

trainee-seen : (m at : ℕ) (h e : List ℕ) (l : Option (List ℕ)) → at + 1 < length h → Single (trainee_from m) h e at l → ListSeen m at h e l
unfolding trainee_from
trainee-seen m at h e l k s =
    let w = when-back (eqb (get_or h at 0) s.start) (list_from m (get_or h (at + 1) 0) (drop s.start e)) (rw (two_cells h at k) at s.here) in
    seen-from m at s.start h e l s.within (eqb-true (get_or h at 0) s.start w.0) w.1

pub record DepotSeen (n at : ℕ) (h e : List ℕ) (d : Depot) : Type 0 where
  pub posts : Option ℕ
  pub list : Option (List ℕ)
  pub is : d ≡ depot posts list
  pub posts-legal : LegalPosts posts
  pub posts-cell : get_or h (at + 2) 0 ≡ posts_cell posts
  pub list-seen : ListSeen n at h e list

depot-seen : (n at : ℕ) (h e : List ℕ) (d : Depot) → at + 2 < length h → Single (depot_from n) h e at d → DepotSeen n at h e d
unfolding depot_from
depot-seen n at h e d k s =
    let w = when-back (eqb (get_or h at 0) s.start) (next (posts_from (get_or h (at + 2) 0)) (λ q. next (list_from n (get_or h (at + 1) 0) (drop s.start e)) (λ l. some (depot q l)))) (rw (three-cells h at k) at s.here) in
    let x = went (posts_from (get_or h (at + 2) 0)) _ w.1 in
    let y = went (list_from n (get_or h (at + 1) 0) (drop s.start e)) _ x.on in
    let p = posts-back (get_or h (at + 2) 0) x.value x.here in
    record {
      posts = x.value;
      list = y.value;
      is = sym (some-own y.on);
      posts-legal = p.0;
      posts-cell = p.1;
      list-seen = seen-from n at s.start h e y.value s.within (eqb-true (get_or h at 0) s.start w.0) y.here;
    }

-- a received list, as a part of the entries
pub record PartSeen (h e : List ℕ) (at : ℕ) (l : List ℕ) : Type 0 where
  pub fits : get_or h at 0 + get_or h (at + 1) 0 ≤ length e
  pub is : part h e at ≡ l

pub part-seen : (hi at : ℕ) (h e l : List ℕ) → ListSeen hi at h e (some l) → PartSeen h e at l
unfolding length_cell list_cells part
part-seen hi at h e l s = go _ s.back.rest
  where
    go : (r : List ℕ) → drop (get_or h at 0) e ≡ l ++ r → PartSeen h e at l
    go r q =
        let c = s.back.cell in
        let w = s.within in
        let u = ap length q ∙ length-append l r in
        let x = length-drop (get_or h at 0) e in
        record { fits = omega arith; is = ap₂ take c q ∙ take-append_seam l r }

-- ---- all of them

front_fits : (n : ℕ) (l r es : List ℕ) → length l ≡ n → es ≡ l ++ r → n ≤ length es
front_fits n l r es x y = let z = ap length y ∙ length-append l r in omega arith

trainee-fits : (m s : ℕ) (hs es : List ℕ) (l : Option (List ℕ)) → trainee_from m s hs es ≡ some l → size l ≤ length es
trainee-fits m s hs es l q = front_fits (size l) (list_cells l) _ es (entries-weigh l) (trainee-back m s hs es l q).2

depot-fits : (n s : ℕ) (hs es : List ℕ) (d : Depot) → depot_from n s hs es ≡ some d → depot_size d ≤ length es
depot-fits n s hs es d q = front_fits (depot_size d) (depot_list_cells d) _ es (depot-weigh d) (depot-back n s hs es d q).2

-- by place in the lists, counted from 0
record ListsSeen (n m : ℕ) (h e : List ℕ) (b : Sides) : Type 0 where
  trainee : (k : ℕ) → k < n → ListSeen m (3 + 2 * k) h e (get_or b.trainees k none)
  depot : (k : ℕ) → k < m → DepotSeen n (3 + 2 * n + 3 * k) h e (get_or b.depots k (depot none none))

lists-seen : (ed n m : ℕ) (h e : List ℕ) (b : Sides) → 3 + 2 * n + 3 * m ≤ length h → lists_from ed n m (drop 3 h) e ≡ some b → ListsSeen n m h e b
unfolding lists_from
lists-seen ed n m h e b long q =
    let t = went (trainees_from n m (drop 3 h) e) _ q in
    let ts = t.value in
    let s = weigh size ts in
    let w = when-back (leb s 4096) _ t.on in
    let d = went (depots_from n m s (drop (2 * n) (drop 3 h)) (drop s e)) _ w.1 in
    let v = when-back (leb (weigh depot_size d.value) 4096) _ d.on in
    let T = series-back (trainee_from m) size 2 trainee_cells list_cells (LegalList m) trainee-wide entries-weigh (trainee-back m) n 0 (drop 3 h) e ts t.here in
    let u : s ≤ length e = front_fits s (joined list_cells ts) _ e (joined-weigh size list_cells entries-weigh ts) T.rest in
    let D : depots_from n m s (drop (3 + 2 * n) h) (drop s e) ≡ some d.value =
    ap (λ z. depots_from n m s z (drop s e)) (sym (drop-drop (2 * n) 3 h)) ∙ d.here in
    subst (ListsSeen n m h e) (some-own v.1)
    (record {
      trainee = λ k l. trainee-seen m (3 + 2 * k) h e _ (omega arith) (series-at (trainee_from m) size 2 h e none (trainee-fits m) n 3 0 ts (omega arith) t.here k l);
      depot = λ k l. depot-seen n (3 + 2 * n + 3 * k) h e _ (omega arith) (series-at (depot_from n) depot_size 3 h e (depot none none) (depot-fits n) m (3 + 2 * n) s d.value u D k l);
    })

-- by number; the default stands for nobody
pub record SidesSeen (h e : List ℕ) (b : Sides) : Type 0 where
  pub room : HeadRoom h
  pub counts : Counts h b
  pub trainee : (i : ℕ) → In (get_or h 1 0) i → ListSeen (get_or h 2 0) (trainee_start i) h e (get_or (none ∷ b.trainees) i none)
  pub depot : (j : ℕ) → In (get_or h 2 0) j → DepotSeen (get_or h 1 0) (depot_start (get_or h 1 0) j) h e (get_or (depot none none ∷ b.depots) j (depot none none))

head-room : (h e : List ℕ) (b : Sides) → sides_of h e ≡ some b → HeadRoom h
unfolding laid
head-room h e b q =
    let s = sides-back h e b q in
    let c = sides-count h e b q in
    let n = s.legal.n in
    let m = s.legal.m in
    let x = ap length s.heads ∙ length-append (head_cells (placement_with b [])) _ in
    let y = head-count (placement_with b []) in
    let t = c.trainees in
    let d = c.depots in
    record { few_trainees = omega arith; few_depots = omega arith; cells = omega arith }

numbered : (n m : ℕ) (h e : List ℕ) (b : Sides) → ListsSeen n m h e b
    → ((i : ℕ) → In n i → ListSeen m (trainee_start i) h e (get_or (none ∷ b.trainees) i none))
    × ((j : ℕ) → In m j → DepotSeen n (depot_start n j) h e (get_or (depot none none ∷ b.depots) j (depot none none)))
numbered n m h e b s = (trainees, depots)
  where
    trainees : (i : ℕ) → In n i → ListSeen m (trainee_start i) h e (get_or (none ∷ b.trainees) i none)
    trainees zero k = absurd (omega (arith, k.low))
    trainees (suc i) k =
        let z : 3 + 2 * i ≡ trainee_start (suc i) = omega arith in
        subst (λ at. ListSeen m at h e (get_or b.trainees i none)) z (s.trainee i (omega (arith, k.high)))

    depots : (j : ℕ) → In m j → DepotSeen n (depot_start n j) h e (get_or (depot none none ∷ b.depots) j (depot none none))
    depots zero k = absurd (omega (arith, k.low))
    depots (suc j) k =
        let z : 3 + 2 * n + 3 * j ≡ depot_start n (suc j) = omega arith in
        subst (λ at. DepotSeen n at h e (get_or b.depots j (depot none none))) z (s.depot j (omega (arith, k.high)))

pub sides-seen : (h e : List ℕ) (b : Sides) → sides_of h e ≡ some b → SidesSeen h e b
unfolding sides_of
sides-seen [] e b q = none-some q
sides-seen (ed ∷ []) e b q = none-some q
sides-seen (ed ∷ n ∷ []) e b q = none-some q
sides-seen (ed ∷ n ∷ m ∷ hs) e b q =
    let r = head-room (ed ∷ n ∷ m ∷ hs) e b q in
    let w = when-back (limits ed n m) _ q in
    let s = numbered n m (ed ∷ n ∷ m ∷ hs) e b (lists-seen ed n m (ed ∷ n ∷ m ∷ hs) e b r.cells w.1) in
    record { room = r; counts = sides-count (ed ∷ n ∷ m ∷ hs) e b q; trainee = s.0; depot = s.1 }
