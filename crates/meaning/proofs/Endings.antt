-- The ending of a set of struck pairs: it fits the set, what fits a sound set is true, the pair named is the first of its kind,
-- and once nothing may be struck any more there always is one.
-- Assumes nothing.
use Prim.Native.Nat.{ℕ, zero, suc, ◌+◌, ◌≤◌, ◌<◌}
use mathlib.Core.Path.{◌≡◌, refl, sym, ap, subst}
use mathlib.Core.Logic.{⊎_elim}
use mathlib.Core.Bool.{Bool, true, false, not, false≢true}
use mathlib.Core.Option.{Option, none, some}
use mathlib.Core.List.{List, [], ◌∷◌}
use native.Mathlib.Omega.{arith}
use lib.Dec.{eqb}
use borrow.Author.Tests.{ltb-true, lt-ltb, eqb-true, eq-eqb, not-true}
use Rattle.meaning.specs.Numbers.{In}
use Rattle.meaning.specs.Lists.{place, Each, each_none, each_more, some?}
use Rattle.meaning.specs.Placement.{held, Order}
use Rattle.meaning.specs.Market.{Market, same_kind, names, standing, Lawful, Table, mutual?, Gains, free, better, spare, Respecting}
use Rattle.meaning.specs.Strikes.{Struck, down_struck, Exhausted, left?, Left}
use Rattle.meaning.specs.Endings.{Outcome, placed_by, none_held, none_room, table_of, left_table, left_of, within?, respecting?, broken?, first_broken, NoneRoom, room?, room_or, room_from, none_room_of, placed_or, held_or, outcome_of, same_cells, outcome_fits}
use Rattle.meaning.specs.Truth.{TrueOutcome, FirstBroken, FirstRoom, FirstNamed}
use Rattle.meaning.proofs.Booleans.{true-or-false, never, is_false, and_left, and_right, and_intro, and-not, some-own, none-some}
use Rattle.meaning.proofs.Numbers.{order, same, Smallest, least, no-least, smallest-is}
use Rattle.meaning.proofs.Lists.{Passes, some-use, some-here, some-later}
use Rattle.meaning.proofs.Pairs.{mutual-is, is-mutual, down-use}
use Rattle.meaning.proofs.Sound.{Clear, left-sits, left-best, none-held-sound}
use Rattle.meaning.proofs.Counting.{none-room-sound}
use Rattle.meaning.proofs.Complete.{Fitting, respecting, room, HeldOpen, fitting}
use Rattle.meaning.proofs.Left.{left-pair, left-unstruck, left-table}
use Rattle.meaning.proofs.Matchings.{within-is, is_within, names-kind, names-trainee, names-depot, names-own, respecting-is, is-respecting}

-- ---- the first broken hold

broken-kind : (K : Market) (S : Struck) (o : Order) → broken? K S o ≡ true → same_kind held o.kind ≡ true
unfolding broken?
broken-kind K S o t = and_left _ _ t

broken-struck : (K : Market) (S : Struck) (o : Order) → broken? K S o ≡ true → left? K S o.trainee o.depot ≡ false
unfolding broken?
broken-struck K S o t = not-true _ (and_right (same_kind held o.kind) _ t)

pub data Broken (K : Market) (S : Struck) (os : List Order) : Option Order → Type 0 where
  broken-at : (o : Order) → FirstBroken K S os o.trainee o.depot → some? (names held o.trainee o.depot) os ≡ true
      → left? K S o.trainee o.depot ≡ false → Broken K S os (some o)
  unbroken : Each (λ o. broken? K S o ≡ false) os → Broken K S os none

pub first-broken : (K : Market) (S : Struck) (os : List Order) → Broken K S os (first_broken K S os)
unfolding first_broken
first-broken K S [] = unbroken each_none
first-broken K S (o ∷ os) = go (broken? K S o) refl (first_broken K S os) (first-broken K S os)
  where
    go : (b : Bool) → broken? K S o ≡ b → (r : Option Order) → Broken K S os r → Broken K S (o ∷ os) (elim b [ true ↦ some o | false ↦ r ])
    go true e r w = broken-at o
        (record { before = []; order = o; after = os; stands = refl; unbroken = each_none; broken = e; trainee = refl; depot = refl })
        (some-here (names held o.trainee o.depot) o os (names-own held o (broken-kind K S o e)))
        (broken-struck K S o e)
    go false e _ (broken-at p f t u) = broken-at p
        (record {
          before = o ∷ f.before;
          order = f.order;
          after = f.after;
          stands = ap (λ l. o ∷ l) f.stands;
          unbroken = each_more e f.unbroken;
          broken = f.broken;
          trainee = f.trainee;
          depot = f.depot;
        })
        (some-later (names held p.trainee p.depot) o os t)
        u
    go false e _ (unbroken h) = unbroken (each_more e h)

-- where no held pair is broken, each is left
pub unbroken-left : (K : Market) (S : Struck) (os : List Order) → Each (λ o. broken? K S o ≡ false) os → (i j : ℕ)
    → some? (names held i j) os ≡ true → left? K S i j ≡ true
unfolding broken?
unbroken-left K S os h i j t =
    let p : Passes (names held i j) (λ o. broken? K S o ≡ false) = some-use (names held i j) os h t in
    let o = p.it in
    let u : left? K S o.trainee o.depot ≡ true = ⊎_elim
    (λ l. l)
    (λ (l : left? K S o.trainee o.depot ≡ false). absurd (never (and_intro (names-kind held i j o p.passed) (ap not l)) p.has))
    (true-or-false (left? K S o.trainee o.depot)) in
    subst (λ y. left? K S i y ≡ true) (names-depot held i j o p.passed)
    (subst (λ x. left? K S x o.depot ≡ true) (names-trainee held i j o p.passed) u)

-- ---- the first pair of kind 2

pub data Room (K : Market) (S : Struck) (L : Table) (d a : ℕ) : Option Outcome → Type 0 where
  room_at : (i j : ℕ) → In K.n i → a ≤ j → j < a + d → room? K S L i j ≡ true
      → ((i' j' : ℕ) → In K.n i' → a ≤ j' → j' < j → room? K S L i' j' ≡ false)
      → ((i' : ℕ) → In K.n i' → i' < i → room? K S L i' j ≡ false) → Room K S L d a (some (none_room i j))
  no_room : ((i j : ℕ) → In K.n i → a ≤ j → j < a + d → room? K S L i j ≡ false) → Room K S L d a none

pub room-from : (K : Market) (S : Struck) (L : Table) (d a : ℕ) → Room K S L d a (room_from K S L d a)
unfolding room_from room_or
room-from K S L zero a = no_room (λ i j r l u. absurd (omega arith))
room-from K S L (suc d) a = go _ (smallest-is K.n (λ i. room? K S L i a)) (room_from K S L d (suc a)) (room-from K S L d (suc a))
  where
    go : (x : Option ℕ) → Smallest K.n (λ i. room? K S L i a) x → (r : Option Outcome) → Room K S L d (suc a) r
        → Room K S L (suc d) a (room_or a x r)
    go _ (least i r t h) _ w = room_at i a r (omega arith) (omega arith) t (λ i' j' r' l u. absurd (omega arith)) h
    go _ (no-least g) _ (room_at i j r l u t h₁ h₂) =
        room_at i j r (omega arith) (omega arith) t
        (λ i' j' r' l' u'. ⊎_elim (λ (e : j' ≡ a). rw e (g i' r')) (λ ne. h₁ i' j' r' (omega arith) u') (same j' a)) h₂
    go _ (no-least g) _ (no_room h) =
        no_room (λ i j r l u. ⊎_elim (λ (e : j ≡ a). rw e (g i r)) (λ ne. h i j r (omega arith) (omega arith)) (same j a))

-- ---- the ending

-- which ending a set has
pub data Ends (K : Market) (lists : ℕ → List ℕ) (os : List Order) (S : Struck) : Option Outcome → Type 0 where
  ends_held : (o : Order) → FirstBroken K S os o.trainee o.depot → some? (names held o.trainee o.depot) os ≡ true
      → left? K S o.trainee o.depot ≡ false → Ends K lists os S (some (none_held o.trainee o.depot))
  ends-placed : Each (λ o. broken? K S o ≡ false) os → respecting? K os (left_of K lists S) ≡ true
      → Ends K lists os S (some (placed_by (left_table K lists S)))
  ends-room : (i j : ℕ) → within? K (left_of K lists S) ≡ true → FirstRoom K S (left_of K lists S) i j
      → Ends K lists os S (some (none_room i j))
  no_end : Each (λ o. broken? K S o ≡ false) os → respecting? K os (left_of K lists S) ≡ false
      → (within? K (left_of K lists S) ≡ true → (i j : ℕ) → In K.n i → In K.m j → room? K S (left_of K lists S) i j ≡ false)
      → Ends K lists os S none

module _ (K : Market) (lists : ℕ → List ℕ) (os : List Order) (S : Struck) where
  pub ends : Ends K lists os S (outcome_of K lists os S)
  unfolding outcome_of held_or placed_or none_room_of
  ends = go (first_broken K S os) (first-broken K S os) (respecting? K os (left_of K lists S)) refl (within? K (left_of K lists S)) refl (room_from K S (left_of K lists S) K.m 1) (room-from K S (left_of K lists S) K.m 1)
    where
      go : (b : Option Order) → Broken K S os b → (t : Bool) → respecting? K os (left_of K lists S) ≡ t → (w : Bool) → within? K (left_of K lists S) ≡ w
          → (r : Option Outcome) → Room K S (left_of K lists S) K.m 1 r
          → Ends K lists os S (held_or b (placed_or t (left_table K lists S) (elim w [ true ↦ r | false ↦ none ])))
      go _ (broken-at o f n u) t et w ew r v = ends_held o f n u
      go _ (unbroken h) true et w ew r v = ends-placed h et
      go _ (unbroken h) false et true ew _ (room_at i j r l u t h₁ h₂) = ends-room i j ew
          (record {
            trainee_in_range = r;
            depot_in_range = record { low = l; high = omega arith };
            room = t;
            depot_first = λ i' j' r' r'' l'. h₁ i' j' r' r''.low l';
            trainee_first = h₂;
          })
      go _ (unbroken h) false et true ew _ (no_room g) = no_end h et (λ _ i j r r'. g i j r r'.low (omega arith))
      go _ (unbroken h) false et false ew r v = no_end h et (λ t. absurd (never t ew))

-- the pair named is the first of its kind
pub first-named : (K : Market) (lists : ℕ → List ℕ) (os : List Order) (S : Struck) (e : Outcome) → outcome_of K lists os S ≡ some e
    → FirstNamed K lists os S e
first-named K lists os S e h = go (outcome_of K lists os S) (ends K lists os S) h
  where
    go : (o : Option Outcome) → Ends K lists os S o → o ≡ some e → FirstNamed K lists os S e
    go _ (ends_held o f n u) q = subst (FirstNamed K lists os S) (some-own q) f
    go _ (ends-placed b t) q = subst (FirstNamed K lists os S) (some-own q) b
    go _ (ends-room i j w f) q = subst (FirstNamed K lists os S) (some-own q) f
    go _ (no_end b t n) q = none-some q

-- ---- what fits is true

pub same-cells : (l m : List ℕ) → same_cells l m ≡ true → l ≡ m
unfolding same_cells
same-cells [] [] h = refl
same-cells [] (y ∷ ys) h = absurd (false≢true h)
same-cells (x ∷ xs) [] h = absurd (false≢true h)
same-cells (x ∷ xs) (y ∷ ys) h =
    let a = eqb-true x y (and_left _ _ h) in
    let b = same-cells xs ys (and_right (eqb x y) _ h) in
    cc

cells_same : (l : List ℕ) → same_cells l l ≡ true
unfolding same_cells
cells_same [] = refl
cells_same (x ∷ l) = and_intro (eq-eqb x x refl) (cells_same l)

module _ (K : Market) (lists : ℕ → List ℕ) (os : List Order) (S : Struck) where
  -- the ending of a set fits it
  pub outcome_fits_lem : (e : Outcome) → outcome_of K lists os S ≡ some e → outcome_fits K lists (standing os) os S e ≡ true
  unfolding outcome_fits standing
  outcome_fits_lem e h = go (outcome_of K lists os S) (ends K lists os S) h
    where
      go : (o : Option Outcome) → Ends K lists os S o → o ≡ some e → outcome_fits K lists (standing os) os S e ≡ true
      go _ (ends_held o f n u) q = subst (λ x. outcome_fits K lists (standing os) os S x ≡ true) (some-own q) (and_intro n (ap not u))
      go _ (ends-placed b t) q = subst (λ x. outcome_fits K lists (standing os) os S x ≡ true) (some-own q) (and_intro (cells_same (left_table K lists S)) t)
      go _ (ends-room i j w f) q = subst (λ x. outcome_fits K lists (standing os) os S x ≡ true) (some-own q) (and_intro w f.room)
      go _ (no_end b t n) q = none-some q

module _ (K : Market) (os : List Order) (lawful : Lawful K (standing os)) (lists : ℕ → List ℕ)
    (listed : (i j : ℕ) → K.trainee_rank i j ≡ place (lists i) j) (S : Struck) where
  left : Left K S (left_of K lists S)
  left = left-table K lawful.ranged lists listed S

  room-is : (i j : ℕ) → within? K (left_of K lists S) ≡ true → room? K S (left_of K lists S) i j ≡ true → NoneRoom K S (left_of K lists S) i j
  unfolding room?
  room-is i j w h = record {
    within = within-is K (left_of K lists S) w;
    pair = mutual-is K i j (and_left _ _ h);
    down = and_left _ _ (and_right (mutual? K i j) _ h);
    room = ltb-true _ _ (and_right (down_struck K S i j) _ (and_right (mutual? K i j) _ h));
  }

  is-room : (i j : ℕ) → NoneRoom K S (left_of K lists S) i j → room? K S (left_of K lists S) i j ≡ true
  unfolding room?
  is-room i j w = and_intro (is-mutual K i j w.pair) (and_intro w.down (lt-ltb _ _ w.room))

  -- what fits a set that takes nothing from a respecting matching is true
  pub fits-true : ((M : Table) → Respecting K (standing os) M → Clear K S M)
      → (e : Outcome) → outcome_fits K lists (standing os) os S e ≡ true → TrueOutcome K (standing os) e
  unfolding outcome_fits left?
  fits-true clear (placed_by l) h = record {
    respecting = respecting-is K lawful.ranged os (table_of l) (and_right (same_cells l (left_table K lists S)) _ h);
    sits = λ M ok i r s. left-sits K (standing os) lawful S M ok (clear M ok) (table_of l) here i r s;
    highest = λ M ok i r s. left-best K (standing os) lawful S M ok (clear M ok) (table_of l) here i r s;
  }
    where
      here : Left K S (table_of l)
      here = rw (same-cells l _ (and_left _ _ h)) left
  fits-true clear (none_held i j) h = λ M ok.
      none-held-sound K (standing os) lawful S M ok (clear M ok) i j
      (record { order = and_left _ _ h; broken = and-not _ _ (not-true _ (and_right ((standing os).held i j) _ h)) })
  fits-true clear (none_room i j) h = λ M ok.
      none-room-sound K (standing os) lawful S M ok (clear M ok) (left_of K lists S) left i j (room-is i j (and_left _ _ h) (and_right (within? K (left_of K lists S)) _ h))

  -- once nothing may be struck any more there is an ending
  pub always-ends : Exhausted K (standing os) S → (e : Outcome) × (outcome_of K lists os S ≡ some e)
  unfolding standing
  always-ends done = go (outcome_of K lists os S) refl (ends K lists os S)
    where
      go : (o : Option Outcome) → outcome_of K lists os S ≡ o → Ends K lists os S o → (e : Outcome) × (outcome_of K lists os S ≡ some e)
      go _ q (ends_held o f n u) = (_, q)
      go _ q (ends-placed b t) = (_, q)
      go _ q (ends-room i j w f) = (_, q)
      go _ q (no_end b t n) = absurd (last (fitting K (standing os) lawful S done (left_of K lists S) left holds))
        where
          holds : HeldOpen K (standing os) S
          holds = record {
            pair = λ i j h. left-pair K S i j (unbroken-left K S os b i j h);
            unstruck = λ i j h. left-unstruck K S i j (unbroken-left K S os b i j h);
          }

          last : Fitting K (standing os) S (left_of K lists S) → ⊥
          last (respecting ok) = never (is-respecting K lawful.ranged os (left_of K lists S) ok) t
          last (room i j w) = never (is-room i j w)
              (n (is_within K (left_of K lists S) w.within) i j (lawful.ranged.trainee_in_range i j w.pair.ranks) (lawful.ranged.depot_in_range i j w.pair.ranks))

-- ---- the ending once nothing may be struck any more: where a pair of kind 2 is there the table isn't respecting, and else it is

module _ (K : Market) (os : List Order) (lawful : Lawful K (standing os)) (lists : ℕ → List ℕ)
    (listed : (i j : ℕ) → K.trainee_rank i j ≡ place (lists i) j) (S : Struck) (done : Exhausted K (standing os) S) (unbroken-holds : first_broken K S os ≡ none) where
  the-left : Left K S (left_of K lists S)
  the-left = left-table K lawful.ranged lists listed S

  all-unbroken : Each (λ o. broken? K S o ≡ false) os
  all-unbroken = go (first_broken K S os) (first-broken K S os) unbroken-holds
    where
      go : (b : Option Order) → Broken K S os b → b ≡ none → Each (λ o. broken? K S o ≡ false) os
      go _ (broken-at o f n u) q = absurd (let z : ◌≡◌ {A = ℕ} 0 1 = cc in omega arith)
      go _ (unbroken h) q = h

  all_held : HeldOpen K (standing os) S
  unfolding standing
  all_held = record {
    pair = λ i j h. left-pair K S i j (unbroken-left K S os all-unbroken i j h);
    unstruck = λ i j h. left-unstruck K S i j (unbroken-left K S os all-unbroken i j h);
  }

  fit : Fitting K (standing os) S (left_of K lists S)
  fit = fitting K (standing os) lawful S done (left_of K lists S) the-left all_held

  -- a respecting left table leaves no pair of kind 2: such a pair would block it
  no-room-there : Respecting K (standing os) (left_of K lists S) → (i j : ℕ) → room? K S (left_of K lists S) i j ≡ true → ⊥
  no-room-there ok i j t =
      let w = room-is K os lawful lists listed S i j (is_within K (left_of K lists S) ok.stable.matching.within) t in
      ok.stable.unblocked i j (record { pair = w.pair; gains = gains i j w; takes = spare w.room })
    where
      gains : (i j : ℕ) → NoneRoom K S (left_of K lists S) i j → Gains K (left_of K lists S) i j
      gains i j w =
          let r = lawful.ranged.trainee_in_range i j w.pair.ranks in
          ⊎_elim
          (λ (z : left_of K lists S i ≤ 0). free (omega arith))
          (λ (l : 0 < left_of K lists S i). ⊎_elim
          (λ (u : K.trainee_rank i (left_of K lists S i) ≤ K.trainee_rank i j). absurd
          (never (down-use K lawful.ranged S i j (left_of K lists S i) w.down (the-left.pairs i r l) u) (the-left.unstruck i r l)))
          (λ (u : K.trainee_rank i j < K.trainee_rank i (left_of K lists S i)). better u)
          (order (K.trainee_rank i (left_of K lists S i)) (K.trainee_rank i j)))
          (order (left_of K lists S i) 0)

  -- which outcome it is, by the view of the ending
  pub exhausted-room : (i j : ℕ) → room_from K S (left_of K lists S) K.m 1 ≡ some (none_room i j) → outcome_of K lists os S ≡ some (none_room i j)
  unfolding outcome_of held_or placed_or none_room_of
  exhausted-room i j h = rw unbroken-holds (go fit)
    where
      there : room? K S (left_of K lists S) i j ≡ true
      there = at (room_from K S (left_of K lists S) K.m 1) (room-from K S (left_of K lists S) K.m 1) h
        where
          at : (o : Option Outcome) → Room K S (left_of K lists S) K.m 1 o → o ≡ some (none_room i j) → room? K S (left_of K lists S) i j ≡ true
          at _ (room_at i' j' r l u t h₁ h₂) q =
              let a : i' ≡ i = cc in
              let b : j' ≡ j = cc in
              subst (λ y. room? K S (left_of K lists S) i y ≡ true) b (subst (λ x. room? K S (left_of K lists S) x j' ≡ true) a t)
          at _ (no_room g) q = none-some q

      go : Fitting K (standing os) S (left_of K lists S) → placed_or (respecting? K os (left_of K lists S)) (left_table K lists S)
          (elim (within? K (left_of K lists S)) [ true ↦ room_from K S (left_of K lists S) K.m 1 | false ↦ none ]) ≡ some (none_room i j)
      go (respecting ok) = absurd (no-room-there ok i j there)
      go (room i' j' w) =
          let f : respecting? K os (left_of K lists S) ≡ false = is_false _ (λ t. no-room-there (respecting-is K lawful.ranged os (left_of K lists S) t) i j there) in
          rw (f, is_within K (left_of K lists S) w.within) h

  pub exhausted-placed : room_from K S (left_of K lists S) K.m 1 ≡ none → outcome_of K lists os S ≡ some (placed_by (left_table K lists S))
  unfolding outcome_of held_or placed_or
  exhausted-placed h = rw (unbroken-holds, is-respecting K lawful.ranged os (left_of K lists S) (ok fit))
    where
      nowhere-room : (i j : ℕ) → In K.n i → In K.m j → room? K S (left_of K lists S) i j ≡ false
      nowhere-room i j r r' = at (room_from K S (left_of K lists S) K.m 1) (room-from K S (left_of K lists S) K.m 1) h
        where
          at : (o : Option Outcome) → Room K S (left_of K lists S) K.m 1 o → o ≡ none → room? K S (left_of K lists S) i j ≡ false
          at _ (room_at i' j' _ l u t h₁ h₂) q = none-some (sym q)
          at _ (no_room g) q = g i j r r'.low (omega (arith, r'.high))

      ok : Fitting K (standing os) S (left_of K lists S) → Respecting K (standing os) (left_of K lists S)
      ok (respecting x) = x
      ok (room i j w) = absurd (never (is-room K os lawful lists listed S i j w)
          (nowhere-room i j (lawful.ranged.trainee_in_range i j w.pair.ranks) (lawful.ranged.depot_in_range i j w.pair.ranks)))
