-- A full placement is the placement with everything received, and a legal one's market is lawful; where it isn't full, the line is the first that lacks something.
-- Assumes nothing.
use Prim.Native.Nat.{ℕ, zero, suc, ◌+◌, ◌≤◌, ◌<◌}
use mathlib.Core.Path.{◌≡◌, refl, sym, ap, ap₂, ◌∙◌, subst}
use mathlib.Core.Logic.{⊎_elim}
use mathlib.Core.Bool.{Bool, true, false}
use mathlib.Core.Option.{Option, none, some}
use mathlib.Core.List.{List, [], ◌∷◌, ◌++◌, map}
use native.Mathlib.Omega.{arith}
use lib.ListN.{length, get_or-eq_default}
use Rattle.meaning.specs.Numbers.{In, ◌or◌}
use Rattle.meaning.specs.Lists.{place, distinct_none, Each, each_none, each_more, some?}
use Rattle.meaning.specs.Placement.{Kind, held, barred, Order, Depot, depot, Placement, LegalEntries, LegalList, a_list, LegalDepot, legal_depot, LegalOrder, Legal}
use Rattle.meaning.specs.Full.{FullDepot, Full, Received, whole, lacking, and_then, on_line, full_depot, all_from, full, is_not_received, depot_lacks, lines_where, lacking_lines}
use Rattle.meaning.specs.Market.{trainee_list, no_depot, depot_of, market, names, standing, Ranged, Strict, Lawful}
use Rattle.meaning.proofs.Numbers.{order}
use Rattle.meaning.proofs.Lists.{place-inj, each-place, each_at, some-use}
use Rattle.meaning.proofs.Matchings.{names-trainee, names-depot}

-- ---- one after the other

whole-own : {A : Type 0} {a b : A} → whole a ≡ whole b → a ≡ b
whole-own e = cc

whole-lacking : {A : Type 0} {a : A} {l : ℕ} → whole a ≡ lacking l → ⊥
whole-lacking e = let z : ◌≡◌ {A = ℕ} 0 1 = cc in omega arith

pub record Went {A B : Type 0} (r : Received A) (f : A → Received B) (b : B) : Type 0 where
  pub value : A
  pub here : r ≡ whole value
  pub on : f value ≡ whole b

pub went : {A B : Type 0} (r : Received A) (f : A → Received B) (b : B) → and_then r f ≡ whole b → Went r f b
unfolding and_then
went (whole a) f b h = record { value = a; here = refl; on = h }
went (lacking l) f b h = absurd (whole-lacking (sym h))

-- ---- what a full placement was read from

-- a full depot as a depot
abbrev pub received : FullDepot → Depot
received d = depot (some d.posts) (some d.list)

all_back : {A B : Type 0} (f : ℕ → A → Received B) (g : B → A) → ((l : ℕ) (x : A) (y : B) → f l x ≡ whole y → x ≡ g y)
    → (l : ℕ) (xs : List A) (ys : List B) → all_from f l xs ≡ whole ys → xs ≡ map g ys
unfolding all_from
all_back f g inv l [] ys h = let e : [] ≡ ys = whole-own h in rw (← e)
all_back f g inv l (x ∷ xs) ys h =
    let a = went (f l x) _ ys h in
    let b = went (all_from f (l + 1) xs) _ ys a.on in
    let e : (a.value ∷ b.value) ≡ ys = whole-own b.on in
    let p : x ≡ g a.value = inv l x a.value a.here in
    let q : xs ≡ map g b.value = all_back f g inv (l + 1) xs b.value b.here in
    rw (← e) (ap₂ ◌∷◌ p q)

line-back : {A : Type 0} (l : ℕ) (x : Option A) (y : A) → on_line l x ≡ whole y → x ≡ some y
unfolding on_line
line-back l none y h = absurd (whole-lacking (sym h))
line-back l (some a) y h = ap some (whole-own h)

depot-back : (l : ℕ) (x : Depot) (y : FullDepot) → full_depot l x ≡ whole y → x ≡ received y
unfolding full_depot
depot-back l (depot p e) y h =
    let a = went (on_line l p) _ y h in
    let b = went (on_line l e) _ y a.on in
    let q : record { posts = a.value; list = b.value } ≡ y = whole-own b.on in
    ap₂ depot (line-back l p a.value a.here) (line-back l e b.value b.here) ∙ ap received q

pub record FullBack (p : Placement) (F : Full) : Type 0 where
  pub trainees : p.trainees ≡ map some F.trainees
  pub depots : p.depots ≡ map received F.depots

pub full_back : (p : Placement) (F : Full) → full p ≡ whole F → FullBack p F
unfolding full
full_back p F h =
    let a = went (all_from on_line 2 p.trainees) _ F h in
    let b = went (all_from full_depot (length p.trainees + 2) p.depots) _ F a.on in
    let e : record { trainees = a.value; depots = b.value } ≡ F = whole-own b.on in
    record {
      trainees = all_back on_line some line-back 2 p.trainees a.value a.here ∙ ap (λ (G : Full). map some G.trainees) e;
      depots = all_back full_depot received depot-back _ p.depots b.value b.here ∙ ap (λ (G : Full). map received G.depots) e;
    }

length-map : {A B : Type 0} (g : A → B) (l : List A) → length (map g l) ≡ length l
length-map g [] = refl
length-map g (x ∷ l) = ap suc (length-map g l)

-- as many trainees, as many depots
pub full-trainees : (p : Placement) (F : Full) → full p ≡ whole F → length p.trainees ≡ length F.trainees
full-trainees p F h = ap length (full_back p F h).trainees ∙ length-map some F.trainees

pub full-depots : (p : Placement) (F : Full) → full p ≡ whole F → length p.depots ≡ length F.depots
full-depots p F h = ap length (full_back p F h).depots ∙ length-map received F.depots

-- ---- a legal placement's market is lawful

-- the sides hold distinct numbers in range
pub record LegalFull (F : Full) : Type 0 where
  pub trainees : Each (LegalEntries (length F.depots)) F.trainees
  pub depots : Each (λ (d : FullDepot). LegalEntries (length F.trainees) d.list) F.depots

pub legal-full : (p : Placement) (F : Full) → Legal p → full p ≡ whole F → LegalFull F
legal-full p F legal h = record {
  trainees = lists F.trainees (rw (back.trainees, back.depots, length-map received F.depots) at legal.trainees);
  depots = depots F.depots (rw (back.depots, back.trainees, length-map {B = Option (List ℕ)} some F.trainees) at legal.depots);
}
  where
    back : FullBack p F
    back = full_back p F h

    lists : {hi : ℕ} (ls : List (List ℕ)) → Each (LegalList hi) (map some ls) → Each (LegalEntries hi) ls
    lists [] each_none = each_none
    lists (l ∷ ls) (each_more (a_list e) es) = each_more e (lists ls es)

    depots : {n : ℕ} (ds : List FullDepot) → Each (LegalDepot n) (map received ds) → Each (λ (d : FullDepot). LegalEntries n d.list) ds
    depots [] each_none = each_none
    depots (d ∷ ds) (each_more (legal_depot q (a_list e)) es) = each_more e (depots ds es)

-- the orders name trainees and depots
abbrev pub LegalOrders : Full → List Order → Type 0
LegalOrders F os = Each (LegalOrder (length F.trainees) (length F.depots)) os

pub legal-orders : (p : Placement) (F : Full) → Legal p → full p ≡ whole F → LegalOrders F p.orders
legal-orders p F legal h =
    subst (λ k. Each (LegalOrder (length F.trainees) k) p.orders) (full-depots p F h)
    (subst (λ k. Each (LegalOrder k (length p.depots)) p.orders) (full-trainees p F h) legal.orders)

module _ (F : Full) (legal : LegalFull F) where
  nothing-ranked : (hi : ℕ) → LegalEntries hi []
  nothing-ranked hi = record { short = omega arith; range = each_none; distinct = distinct_none }

  pub trainee-legal : (i : ℕ) → LegalEntries (length F.depots) (trainee_list F i)
  unfolding trainee_list
  trainee-legal zero = nothing-ranked _
  trainee-legal (suc k) = each_at F.trainees legal.trainees [] (nothing-ranked _) k

  pub depot-legal : (j : ℕ) → LegalEntries (length F.trainees) (depot_of F j).list
  unfolding depot_of
  depot-legal zero = nothing-ranked _
  depot-legal (suc k) = each_at F.depots legal.depots no_depot (nothing-ranked _) k

  trainee-there : (i j : ℕ) → 0 < place (trainee_list F i) j → In (length F.trainees) i
  unfolding trainee_list place
  trainee-there zero j h = absurd (omega arith)
  trainee-there (suc k) j h = ⊎_elim
      (λ (l : length F.trainees ≤ k). absurd
      (let z : 0 < place [] j = subst (λ x. 0 < place x j) (get_or-eq_default F.trainees [] l) h in omega arith))
      (λ (l : k < length F.trainees). record { low = omega arith; high = omega arith })
      (order (length F.trainees) k)

  pub ranged-market : Ranged (market F)
  unfolding market
  ranged-market = record { trainee_in_range = trainee-there; depot_in_range = λ i j h. each-place (trainee_list F i) (trainee-legal i).range j h }

  pub strict-market : Strict (market F)
  unfolding market
  strict-market = record {
    trainee_strict = λ i j j' h e. place-inj (trainee_list F i) j j' h e;
    depot_strict = λ j i i' h e. place-inj (depot_of F j).list i i' h e;
  }

  module _ (os : List Order) (fine : LegalOrders F os) where
    named-trainee : (k : Kind) (i j : ℕ) → some? (names k i j) os ≡ true → In (length F.trainees) i
    named-trainee k i j h =
        let p = some-use (names k i j) os fine h in
        subst (In (length F.trainees)) (names-trainee k i j p.it p.passed) p.has.trainee

    named-depot : (k : Kind) (i j : ℕ) → some? (names k i j) os ≡ true → In (length F.depots) j
    named-depot k i j h =
        let p = some-use (names k i j) os fine h in
        subst (In (length F.depots)) (names-depot k i j p.it p.passed) p.has.depot

    pub lawful-market : Lawful (market F) (standing os)
    unfolding market standing
    lawful-market = record {
      ranged = ranged-market;
      strict = strict-market;
      orders = record {
        held_trainee = named-trainee held;
        held_depot = named-depot held;
        barred_trainee = named-trainee barred;
        barred_depot = named-depot barred;
      };
    }

-- the trainees' ranks are places on their lists
pub listed : (F : Full) (i j : ℕ) → (market F).trainee_rank i j ≡ place (trainee_list F i) j
unfolding market
listed F i j = refl

-- ---- refusal 7

pub data Lines (B : Type 0) (ls : List ℕ) : Received B → Type 0 where
  none-lack : (b : B) → ls ≡ [] → Lines B ls (whole b)
  first-lacks : (l : ℕ) (rest : List ℕ) → ls ≡ l ∷ rest → Lines B ls (lacking l)

all_lines : {A B : Type 0} (f : ℕ → A → Received B) (g : A → Bool)
    → ((l : ℕ) (x : A) → Lines B (elim (g x) [ true ↦ l ∷ [] | false ↦ [] ]) (f l x))
    → (l : ℕ) (xs : List A) → Lines (List B) (lines_where g l xs) (all_from f l xs)
unfolding all_from lines_where and_then
all_lines f g one l [] = none-lack [] refl
all_lines {A} {B} f g one l (x ∷ xs) = go (g x) (f l x) (one l x) (all_from f (l + 1) xs) (all_lines f g one (l + 1) xs)
  where
    go : (b : Bool) (r : Received B) → Lines B (elim b [ true ↦ l ∷ [] | false ↦ [] ]) r
        → (rs : Received (List B)) → Lines (List B) (lines_where g (l + 1) xs) rs
        → Lines (List B) (elim b [ true ↦ l ∷ lines_where g (l + 1) xs | false ↦ lines_where g (l + 1) xs ]) (and_then r (λ y. and_then rs (λ ys. whole (y ∷ ys))))
    go true _ (none-lack y e) rs w = absurd (let z : ◌≡◌ {A = ℕ} 0 1 = cc in omega arith)
    go true _ (first-lacks k rest e) rs w = let q : l ≡ k = cc in first-lacks k _ (ap (λ (h : ℕ). h ∷ lines_where g (l + 1) xs) q)
    go false _ (none-lack y e) _ (none-lack ys q) = none-lack (y ∷ ys) q
    go false _ (none-lack y e) _ (first-lacks k rest q) = first-lacks k rest q
    go false _ (first-lacks k rest e) rs w = absurd (let z : ◌≡◌ {A = ℕ} 0 1 = cc in omega arith)

one_line : {A : Type 0} (l : ℕ) (x : Option A) → Lines A (elim (is_not_received x) [ true ↦ l ∷ [] | false ↦ [] ]) (on_line l x)
unfolding on_line is_not_received
one_line l none = first-lacks l [] refl
one_line l (some a) = none-lack a refl

one-depot : (l : ℕ) (d : Depot) → Lines FullDepot (elim (depot_lacks d) [ true ↦ l ∷ [] | false ↦ [] ]) (full_depot l d)
unfolding full_depot depot_lacks on_line is_not_received and_then ◌or◌
one-depot l (depot none e) = first-lacks l [] refl
one-depot l (depot (some p) none) = first-lacks l [] refl
one-depot l (depot (some p) (some e)) = none-lack (record { posts = p; list = e }) refl

-- a placement is full exactly if no line lacks anything, and otherwise the line given is the first that does
pub full-lines : (p : Placement) → Lines Full (lacking_lines p) (full p)
unfolding full lacking_lines and_then
full-lines p = go (all_from on_line 2 p.trainees) (all_lines on_line is_not_received one_line 2 p.trainees)
    (all_from full_depot (length p.trainees + 2) p.depots) (all_lines full_depot depot_lacks one-depot (length p.trainees + 2) p.depots)
  where
    go : {x y : List ℕ} (r : Received (List (List ℕ))) → Lines (List (List ℕ)) x r → (s : Received (List FullDepot)) → Lines (List FullDepot) y s
        → Lines Full (x ++ y) (and_then r (λ ts. and_then s (λ ds. whole (record { trainees = ts; depots = ds }))))
    go _ (none-lack ts e) _ (none-lack ds q) = none-lack (record { trainees = ts; depots = ds }) (rw (e, q))
    go _ (none-lack ts e) _ (first-lacks k rest q) = first-lacks k rest (rw (e, q))
    go {y = y} _ (first-lacks k rest e) s w = first-lacks k (rest ++ y) (rw e)
