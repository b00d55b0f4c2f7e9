-- One list, one trainee, one depot, one order, there and back. Assumes nothing.
use Prim.Native.Nat.{ℕ, zero, suc, ◌≤◌}
use mathlib.Core.Path.{◌≡◌, refl, sym, ap, ap₂, ◌∙◌, subst}
use mathlib.Core.Logic.{◌⊎◌, inl, inr}
use mathlib.Core.Bool.{true, false, not}
use mathlib.Core.Option.{Option, none, some}
use mathlib.Core.List.{List, [], ◌∷◌, ◌++◌}
use native.Mathlib.Omega.{arith}
use lib.ListN.{length, take, drop, length-append, take-append-drop}
use lib.Seq.{take_at, length-take-le}
use lib.Dec.{leb, eqb}
use borrow.Author.Tests.{leb-true, eqb-true, le-leb, eq-eqb, ne_eqb, not-true}
use Rattle.meaning.specs.Numbers.{In, ◌&◌}
use Rattle.meaning.specs.Lists.{member, Distinct, distinct_none, distinct_more, Each, each_none, each_more}
use Rattle.meaning.specs.Placement.{Kind, held, barred, Order, Depot, depot, size, depot_size, LegalList, no_list, a_list, LegalPosts, no_posts, some_posts, LegalDepot, legal_depot, LegalOrder}
use Rattle.meaning.proofs.Booleans.{true-or-false, and_intro, and_left, and_right, some-own, none-some}
use Rattle.tables.proofs.Tests.{went, goes, when-back, when-goes, in_within, within_in}
use Rattle.tables.specs.Cells.{missing_cell, posts_cell, length_cell, list_cells, trainee_cells, depot_cells, depot_list_cells, kind_cell, one_order, weightless}
use Rattle.tables.specs.Decode.{within, next, good_entries, list_from, posts_from, trainee_from, depot_from, kind_from, pair_from, order_from}

-- ---- good entries

pub good-legal : (hi : ℕ) (es : List ℕ) → good_entries hi es ≡ true → Each (In hi) es × Distinct es
unfolding good_entries
good-legal hi [] h = (each_none, distinct_none)
good-legal hi (x ∷ xs) h =
    let t = and_right (within hi x) _ h in
    let r = good-legal hi xs (and_right (not (member x xs)) _ t) in
    (each_more (within_in hi x (and_left _ _ h)) r.0, distinct_more (not-true _ (and_left _ _ t)) r.1)

pub legal-good : (hi : ℕ) (es : List ℕ) → Each (In hi) es → Distinct es → good_entries hi es ≡ true
unfolding good_entries
legal-good hi _ each_none distinct_none = refl
legal-good hi _ (each_more {x = x} {xs = xs} b bs) (distinct_more m d) =
    and_intro (in_within hi x b) (and_intro (rw m) (legal-good hi xs bs d))

-- ---- one list

pub list-there : (hi : ℕ) (l : Option (List ℕ)) (es : List ℕ) → hi ≤ 256 → LegalList hi l → list_from hi (length_cell l) (list_cells l ++ es) ≡ some l
unfolding list_from length_cell list_cells
list-there hi _ es h no_list = refl
list-there hi _ es h (a_list {l = l} g) =
    let u = g.short in
    let w : length l ≤ length (l ++ es) = omega (arith, length-append l es) in
    rw (ne_eqb (length l) missing_cell (λ e. omega arith), list_from)
    (rw (take_at l es (length l) refl)
    (when-goes _ _ (and_intro (le-leb _ _ u) (and_intro (le-leb (length l) (length (l ++ es)) w) (legal-good hi l g.range g.distinct)))))

pub record ListBack (hi v : ℕ) (es : List ℕ) (l : Option (List ℕ)) : Type 0 where
  pub legal : LegalList hi l
  pub cell : v ≡ length_cell l
  pub rest : es ≡ list_cells l ++ drop (size l) es

pub list_back : (hi v : ℕ) (es : List ℕ) (l : Option (List ℕ)) → list_from hi v es ≡ some l → ListBack hi v es l
unfolding list_from length_cell list_cells size
list_back hi v es l h = go (true-or-false (eqb v missing_cell))
  where
    go : (eqb v missing_cell ≡ true) ⊎ (eqb v missing_cell ≡ false) → ListBack hi v es l
    go (inl t) = subst (ListBack hi v es) (some-own (rw (t, list_from) at h)) (record { legal = no_list; cell = eqb-true v missing_cell t; rest = refl })
    go (inr f) =
        let w = when-back (leb v hi & leb v (length es) & good_entries hi (take v es)) _ (rw (f, list_from) at h) in
        let a = leb-true v hi (and_left _ _ w.0) in
        let t = and_right (leb v hi) _ w.0 in
        let b = leb-true v (length es) (and_left _ _ t) in
        let g = good-legal hi (take v es) (and_right (leb v (length es)) _ t) in
        let n : length (take v es) ≡ v = length-take-le v es b in
        subst (ListBack hi v es) (some-own w.1)
        (record { legal = a_list (record { short = omega arith; range = g.0; distinct = g.1 }); cell = sym n; rest = sym (rw n (take-append-drop v es)) })

-- ---- one trainee

pub trainee-wide : (s : ℕ) (l : Option (List ℕ)) → length (trainee_cells s l) ≡ 2
unfolding trainee_cells
trainee-wide s l = refl

pub entries-weigh : (l : Option (List ℕ)) → length (list_cells l) ≡ size l
unfolding list_cells size
entries-weigh none = refl
entries-weigh (some l) = refl

pub trainee-there : (m : ℕ) → m ≤ 64 → (s : ℕ) (l : Option (List ℕ)) (hs es : List ℕ) → LegalList m l → trainee_from m s (trainee_cells s l ++ hs) (list_cells l ++ es) ≡ some l
unfolding trainee_from trainee_cells
trainee-there m hm s l hs es g = when-goes _ _ (eq-eqb s s refl) ∙ list-there m l es (omega arith) g

pub trainee-back : (m s : ℕ) (hs es : List ℕ) (l : Option (List ℕ)) → trainee_from m s hs es ≡ some l
    → LegalList m l × (hs ≡ trainee_cells s l ++ drop 2 hs) × (es ≡ list_cells l ++ drop (size l) es)
unfolding trainee_from trainee_cells
trainee-back m s [] es l h = none-some h
trainee-back m s (a ∷ []) es l h = none-some h
trainee-back m s (a ∷ v ∷ hs) es l h =
    let w = when-back (eqb a s) _ h in
    let b = list_back m v es l w.1 in
    (b.legal, ap₂ (λ x y. x ∷ y ∷ hs) (eqb-true a s w.0) b.cell, b.rest)

-- ---- one depot

pub depot-wide : (s : ℕ) (d : Depot) → length (depot_cells s d) ≡ 3
unfolding depot_cells
depot-wide s (depot p l) = refl

pub depot-weigh : (d : Depot) → length (depot_list_cells d) ≡ depot_size d
unfolding depot_list_cells depot_size
depot-weigh (depot p l) = entries-weigh l

posts-there : (p : Option ℕ) → LegalPosts p → posts_from (posts_cell p) ≡ some p
unfolding posts_from posts_cell
posts-there _ no_posts = refl
posts-there _ (some_posts {p = v} h) = rw (ne_eqb v missing_cell (λ e. omega arith), posts_from) (when-goes _ _ (le-leb v 256 h))

pub posts-back : (v : ℕ) (p : Option ℕ) → posts_from v ≡ some p → LegalPosts p × (v ≡ posts_cell p)
unfolding posts_from posts_cell
posts-back v p h = go (true-or-false (eqb v missing_cell))
  where
    go : (eqb v missing_cell ≡ true) ⊎ (eqb v missing_cell ≡ false) → LegalPosts p × (v ≡ posts_cell p)
    go (inl t) = subst (λ q. LegalPosts q × (v ≡ posts_cell q)) (some-own (rw (t, posts_from) at h)) (no_posts, eqb-true v missing_cell t)
    go (inr f) =
        let w = when-back (leb v 256) _ (rw (f, posts_from) at h) in
        subst (λ q. LegalPosts q × (v ≡ posts_cell q)) (some-own w.1) (some_posts (leb-true v 256 w.0), refl)

pub depot-there : (n : ℕ) → n ≤ 256 → (s : ℕ) (d : Depot) (hs es : List ℕ) → LegalDepot n d → depot_from n s (depot_cells s d ++ hs) (depot_list_cells d ++ es) ≡ some d
unfolding depot_from depot_cells depot_list_cells next
depot-there n hn s _ hs es (legal_depot {p = p} {l = l} g k) =
    when-goes _ _ (eq-eqb s s refl) ∙ rw (posts-there p g, list-there n l es hn k)

abbrev DepotBack : ℕ → ℕ → List ℕ → List ℕ → Depot → Type 0
DepotBack n s hs es d = LegalDepot n d × (hs ≡ depot_cells s d ++ drop 3 hs) × (es ≡ depot_list_cells d ++ drop (depot_size d) es)

pub depot-back : (n s : ℕ) (hs es : List ℕ) (d : Depot) → depot_from n s hs es ≡ some d
    → LegalDepot n d × (hs ≡ depot_cells s d ++ drop 3 hs) × (es ≡ depot_list_cells d ++ drop (depot_size d) es)
unfolding depot_from depot_cells depot_list_cells depot_size
depot-back n s [] es d h = none-some h
depot-back n s (a ∷ []) es d h = none-some h
depot-back n s (a ∷ v ∷ []) es d h = none-some h
depot-back n s (a ∷ v ∷ p ∷ hs) es d h =
    let w = when-back (eqb a s) _ h in
    let x = went (posts_from p) _ w.1 in
    let y = went (list_from n v es) _ x.on in
    let q = posts-back p x.value x.here in
    let b = list_back n v es y.value y.here in
    subst (DepotBack n s (a ∷ v ∷ p ∷ hs) es) (some-own y.on)
    (legal_depot q.0 b.legal, ap₂ (λ f g. f ∷ g) (eqb-true a s w.0) (ap₂ (λ f g. f ∷ g ∷ hs) b.cell q.1), b.rest)

-- ---- one order

pub order-wide : (s : ℕ) (o : Order) → length (one_order s o) ≡ 3
unfolding one_order
order-wide s o = refl

-- an order has no entries
unfoldable pub no_cells : {A : Type 0} → A → List ℕ
no_cells a = []

pub order-weigh : (o : Order) → length (no_cells o) ≡ weightless o
unfolding no_cells weightless
order-weigh o = refl

kind-there : (b : Kind) → kind_from (kind_cell b) ≡ some b
unfolding kind_from kind_cell
kind-there held = refl
kind-there barred = refl

kind-back : (k : ℕ) (b : Kind) → kind_from k ≡ some b → k ≡ kind_cell b
unfolding kind_from kind_cell
kind-back zero b h = ap kind_cell (some-own h)
kind-back (suc zero) b h = ap kind_cell (some-own h)
kind-back (suc (suc k)) b h = none-some h

pub order-there : (n m s : ℕ) (o : Order) (hs es : List ℕ) → LegalOrder n m o → order_from n m s (one_order s o ++ hs) (no_cells o ++ es) ≡ some o
unfolding order_from one_order pair_from
order-there n m s o hs es g =
    goes _ _ _ (kind-there o.kind) ∙ when-goes _ _ (and_intro (in_within n o.trainee g.trainee) (in_within m o.depot g.depot))

abbrev OrderBack : ℕ → ℕ → ℕ → List ℕ → List ℕ → Order → Type 0
OrderBack n m s hs es o = LegalOrder n m o × (hs ≡ one_order s o ++ drop 3 hs) × (es ≡ no_cells o ++ drop (weightless o) es)

pub order-back : (n m s : ℕ) (hs es : List ℕ) (o : Order) → order_from n m s hs es ≡ some o
    → LegalOrder n m o × (hs ≡ one_order s o ++ drop 3 hs) × (es ≡ no_cells o ++ drop (weightless o) es)
unfolding order_from one_order no_cells weightless pair_from
order-back n m s [] es o h = none-some h
order-back n m s (k ∷ []) es o h = none-some h
order-back n m s (k ∷ i ∷ []) es o h = none-some h
order-back n m s (k ∷ i ∷ j ∷ hs) es o h =
    let x = went (kind_from k) _ h in
    let w = when-back (within n i & within m j) _ x.on in
    subst (OrderBack n m s (k ∷ i ∷ j ∷ hs) es) (some-own w.1) (
      record { trainee = within_in n i (and_left _ _ w.0); depot = within_in m j (and_right (within n i) _ w.0) },
      ap (λ c. c ∷ i ∷ j ∷ hs) (kind-back k x.value x.here),
      refl,
    )
