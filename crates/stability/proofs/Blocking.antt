-- A pair blocks exactly if the search says so, by the places above the trainee's own depot, the counts and the worst ranks; and the search, one step at a time.
-- Assumes nothing.
use Prim.Native.Nat.{ℕ, zero, suc, ◌+◌, ◌-◌, ◌≤◌, ◌<◌}
use mathlib.Core.Path.{◌≡◌, refl, sym, ap, ◌∙◌}
use mathlib.Core.Logic.{⊎_elim}
use mathlib.Core.Bool.{Bool, true, false}
use mathlib.Core.Option.{none, some}
use mathlib.Core.List.{List}
use native.Mathlib.Omega.{arith}
use native.Mathlib.Numerals.{add-one}
use lib.ListN.{drop_of_length-le, length, get_or, take, drop}
use lib.Seq.{drop-cons, take-length}
use Rattle.std.proofs.lemmas.List.{get_or-take, length-take-le}
use Rattle.std.specs.Prelude as rust
use lib.Dec.{ltb, eqb}
use borrow.Author.Tests.{lt-ltb, le-ltb, eq-eqb, ne_eqb}
use Rattle.stability.specs.Search.{rank_in, places_above, takes_at, PairTables, SearchTables}
use Rattle.stability.proofs.Seats.{worst-below}
use Rattle.meaning.specs.Numbers.{In, ◌&◌, ◌or◌}
use Rattle.meaning.specs.Lists.{place}
use Rattle.meaning.specs.Market.{Market, Table, mutual?, placed}
use Rattle.meaning.specs.Endings.{table_of, blocks?}
use Rattle.meaning.specs.Stability.{first_on, blocking_or, blocking_from}
use Rattle.meaning.proofs.Numbers.{order}
use Rattle.tables.specs.Decode.{within}
use Rattle.ranks.specs.View.{n_of, m_of, wishes_of, ranking_of, posts_of, market_of, Once}
use Rattle.ranks.proofs.Places.{place-le, on_list}
use Rattle.meaning.specs.declared.Tested.{Tested}
use Rattle.meaning.specs.declared.Tested.TheVariants.{Blocking}

-- ---- gaining

-- the places that a trainee gains by are those above their own depot's
pub gains-above : (l : List ℕ) (x q : ℕ) → Once l → q < length l → (eqb x 0 or ltb (place l (get_or l q 0)) (place l x)) ≡ ltb q (places_above l x)
unfolding places_above ◌or◌
gains-above l x q once h = go (eqb x 0) (once q h)
  where
    go : (b : Bool) → place l (get_or l q 0) ≡ suc q
        → (b or ltb (place l (get_or l q 0)) (place l x)) ≡ ltb q (elim b [ true ↦ length l | false ↦ place l x - 1 ])
    go true e = sym (lt-ltb q (length l) h)
    go false e = ⊎_elim
        (λ (u : place l x ≤ suc q). rw (le-ltb (place l (get_or l q 0)) (place l x) (omega arith), le-ltb q (place l x - 1) (omega arith)))
        (λ (u : suc q < place l x). rw (lt-ltb (place l (get_or l q 0)) (place l x) (omega arith), lt-ltb q (place l x - 1) (omega arith)))
        (order (place l x) (suc q))

exchange : (d a r : Bool) → ((true & d) & (a & r)) ≡ (a & (d & r))
unfolding ◌&◌
exchange true a r = refl
exchange false true r = refl
exchange false false r = refl

-- ---- the depot's side

pub no-rank : (h e : List ℕ) (j i : ℕ) → j ≡ 0 → 0 ≡ place (ranking_of h e j) i
unfolding ranking_of within place ◌&◌
no-rank h e j i z = rw z

pub rank-none : (x : ℕ) → rust.None ≡ rank_in x → x ≡ 0
unfolding rank_in
rank-none zero e = refl
rank-none (suc p) e = absurd (cc)

pub rank-some : (x r : ℕ) → rust.Some r ≡ rank_in x → (x ≡ r) × (r ≡ 0 → ⊥)
unfolding rank_in
rank-some zero r e = absurd (cc)
rank-some (suc p) r e = let same : suc p ≡ r = cc in (same, λ z. omega arith)

module _ (r posts number worst : ℕ) where
  pub takes-stranger : r ≡ 0 → false ≡ takes_at r posts number worst
  unfolding takes_at ◌&◌
  takes-stranger z = rw z

  module _ (ranked : r ≡ 0 → ⊥) where
    pub takes-room : number < posts → true ≡ takes_at r posts number worst
    unfolding takes_at ◌&◌ ◌or◌
    takes-room l = rw (lt-ltb 0 r (omega arith), lt-ltb number posts l)

    pub takes-worse : posts ≤ number → ltb r worst ≡ takes_at r posts number worst
    unfolding takes_at ◌&◌ ◌or◌
    takes-worse l = rw (lt-ltb 0 r (omega arith), le-ltb number posts l)

-- ---- the trainee's side

pub all_above : (l : List ℕ) (x : ℕ) → x ≡ 0 → length l ≡ places_above l x
unfolding places_above
all_above l x z = rw (eq-eqb x 0 z, places_above)

pub some-above : (l : List ℕ) (x : ℕ) → (x ≡ 0 → ⊥) → place l x - 1 ≡ places_above l x
unfolding places_above
some-above l x n = rw (ne_eqb x 0 n, places_above)

-- ---- the part above one's own depot

module _ (l : List ℕ) (x : ℕ) where
  pub above_most : places_above l x ≤ length l
  unfolding places_above
  above_most = go (eqb x 0)
    where
      go : (b : Bool) → elim b [ true ↦ length l | false ↦ place l x - 1 ] ≤ length l
      go true = omega arith
      go false = omega (arith, place-le l x)

  module _ (own : (x ≡ 0 → place l x ≡ 0) × (0 < x → 0 < place l x)) where
    pub above-found : (p : ℕ) → suc p ≡ place l x → p ≡ places_above l x
    above-found p e = let n : x ≡ 0 → ⊥ = λ z. omega (arith, own.0 z) in let q : p ≡ place l x - 1 = omega arith in q ∙ some-above l x n

    pub above-whole : 0 ≡ place l x → l ≡ take (places_above l x) l
    above-whole e = let z : x ≡ 0 = ⊎_elim (λ (u : x ≤ 0). omega arith) (λ (u : 0 < x). absurd (omega (arith, own.1 u))) (order x 0) in sym (ap (λ (k : ℕ). take k l) (sym (all_above l x z)) ∙ take-length l)

-- ---- the law of the search

module _ (h e t counts worsts : List ℕ) (s : SearchTables h e t counts worsts) (i : ℕ) where
  -- trainee i and the depot at place q of their list block exactly if q is above their own depot's place and the depot would take them
  pub blocks_at : (q : ℕ) → q < length (wishes_of h e i)
      → blocks? (market_of h e) (table_of t) i (get_or (wishes_of h e i) q 0)
      ≡ ltb q (places_above (wishes_of h e i) (table_of t i))
      & takes_at (place (ranking_of h e (get_or (wishes_of h e i) q 0)) i) (posts_of h (get_or (wishes_of h e i) q 0)) (get_or counts (get_or (wishes_of h e i) q 0) 0) (get_or worsts (get_or (wishes_of h e i) q 0) 0)
  unfolding blocks? mutual? market_of placed takes_at
  blocks_at q u =
      let l = wishes_of h e i in
      let j = get_or l q 0 in
      let rank = place (ranking_of h e j) i in
      let ft = s.paired.tables.full in
      let few : j ≤ 64 = omega (arith, (ft.trainee_names i q u).high, ft.few_depots) in
      let ranks : ltb 0 (place l j) ≡ true = lt-ltb 0 (place l j) (omega (arith, ft.trainee_once i q u)) in
      let gains = gains-above l (table_of t i) q (ft.trainee_once i) u in
      let number = sym (s.counted j few) in
      let below = sym (worst-below (market_of h e) (table_of t) rank j (n_of h)) ∙ ap (ltb rank) (sym (s.ranked j few)) in
      (λ x. (ranks x & ltb 0 rank) & (gains x & (ltb (number x) (posts_of h j) or below x)))
      ∙ exchange (ltb 0 rank) _ _

-- ---- along one list

module _ (K : Market) (M : Table) (i : ℕ) (l : List ℕ) where
  none-on : (d p : ℕ) → length l ≤ p + d → ((q : ℕ) → p ≤ q → q < length l → blocks? K M i (get_or l q 0) ≡ false) → first_on K M i (drop p l) ≡ none
  unfolding first_on
  none-on zero p h g = let k : length l ≤ p = omega arith in rw (drop_of_length-le l k)
  none-on (suc d) p h g = ⊎_elim
      (λ (k : length l ≤ p). rw (drop_of_length-le l k))
      (λ (k : p < length l). rw (drop-cons l p 0) (rw (g p (omega arith) k, first_on) (none-on d (suc p) (omega arith) (λ q u. g q (omega arith)))))
      (order (length l) p)

  module _ (p : ℕ) (inv : first_on K M i l ≡ first_on K M i (drop p l)) where
    pub pair-here : p < length l → blocks? K M i (get_or l p 0) ≡ true → some (get_or l p 0) ≡ first_on K M i l
    unfolding first_on
    pair-here k b = sym (inv ∙ rw (drop-cons l p 0) (rw (b, first_on)))

    pub pair-later : p < length l → blocks? K M i (get_or l p 0) ≡ false → first_on K M i l ≡ first_on K M i (drop (p + 1) l)
    unfolding first_on
    pair-later k b = inv ∙ rw (add-one, drop-cons l p 0) (rw (b, first_on))

    pub pair-none : ((q : ℕ) → p ≤ q → q < length l → blocks? K M i (get_or l q 0) ≡ false) → none ≡ first_on K M i l
    pair-none g = sym (inv ∙ none-on (length l) p (omega arith) g)

-- ---- one trainee's list, as the search holds it

module _ (h e t : List ℕ) (s : PairTables h e t) (i : ℕ) (r : In (n_of h) i) (w : List ℕ) (ew : w ≡ wishes_of h e i) (x : ℕ) (ex : x ≡ table_of t i) where
  own-place : 0 < x → 0 < place w x
  unfolding market_of
  own-place l = rw (ew, ex) (s.pairs i r (rw ex at l)).ranks

  own-none : x ≡ 0 → place w x ≡ 0
  own-none z = ⊎_elim
      (λ (u : place w x ≤ 0). omega arith)
      (λ (u : 0 < place w x). let m = on_list (In (m_of h)) w x u (rw ew (s.tables.full.trainee_names i)) in absurd (omega (arith, m.low)))
      (order (place w x) 0)

  -- one's own depot stands on the list, and no list names a depot 0
  pub own-listed : (x ≡ 0 → place w x ≡ 0) × (0 < x → 0 < place w x)
  own-listed = (own-none, own-place)

module _ (h e t counts worsts : List ℕ) (s : SearchTables h e t counts worsts) (i : ℕ) (w : List ℕ) (ew : w ≡ wishes_of h e i)
    (x : ℕ) (ex : x ≡ table_of t i) (a : List ℕ) (ea : a ≡ take (places_above w x) w) where
  above-length : places_above (wishes_of h e i) (table_of t i) ≡ length a
  above-length = rw (← ew, ← ex) (sym (ap length ea ∙ length-take-le (places_above w x) w (above_most w x)))

  -- nobody gains by a place that isn't above their own
  blocks-past : (q : ℕ) → length a ≤ q → q < length (wishes_of h e i) → blocks? (market_of h e) (table_of t) i (get_or (wishes_of h e i) q 0) ≡ false
  unfolding ◌&◌
  blocks-past q l u = blocks_at h e t counts worsts s i q u ∙ rw (le-ltb q (places_above (wishes_of h e i) (table_of t i)) (omega (arith, above-length)))

  module _ (p : ℕ) (inv : first_on (market_of h e) (table_of t) i (wishes_of h e i) ≡ first_on (market_of h e) (table_of t) i (drop p (wishes_of h e i))) where
    pub pairs-done : length a ≤ p → none ≡ first_on (market_of h e) (table_of t) i (wishes_of h e i)
    pairs-done l = pair-none _ _ i (wishes_of h e i) p inv (λ q k. blocks-past q (omega arith))

    module _ (l : p < length a) where
      place_inside : p < length (wishes_of h e i)
      place_inside = omega (arith, above-length, above_most (wishes_of h e i) (table_of t i))

      pub place-same : get_or a p 0 ≡ get_or (wishes_of h e i) p 0
      place-same = rw (ea, ← ew) (get_or-take (places_above w x) w p 0 (omega (arith, ap length ea, length-take-le (places_above w x) w (above_most w x))))

      module _ (j : ℕ) (ej : j ≡ get_or a p 0) where
        module _ (b : Bool) (eb : b ≡ takes_at (place (ranking_of h e j) i) (posts_of h j) (get_or counts j 0) (get_or worsts j 0)) where
          blocks-here : blocks? (market_of h e) (table_of t) i (get_or (wishes_of h e i) p 0) ≡ b
          unfolding ◌&◌
          blocks-here = blocks_at h e t counts worsts s i p place_inside ∙ rw (lt-ltb p (places_above (wishes_of h e i) (table_of t i)) (omega (arith, above-length)), eb, ej, place-same)

          pub pair_found : b ≡ true → some (get_or a p 0) ≡ first_on (market_of h e) (table_of t) i (wishes_of h e i)
          pair_found k = ap (λ (y : ℕ). some y) place-same ∙ pair-here _ _ i (wishes_of h e i) p inv place_inside (blocks-here ∙ k)

          pub pair-passed : b ≡ false → first_on (market_of h e) (table_of t) i (wishes_of h e i) ≡ first_on (market_of h e) (table_of t) i (drop (p + 1) (wishes_of h e i))
          pair-passed k = pair-later _ _ i (wishes_of h e i) p inv place_inside (blocks-here ∙ k)

-- ---- trainee after trainee

module _ (K : Market) (lists : ℕ → List ℕ) (M : Table) (d i : ℕ) (answer : Tested) (inv : answer ≡ blocking_from K lists M d i) where
  module _ (d' : ℕ) (n : d ≡ suc d') where
    list_open : answer ≡ blocking_or i (first_on K M i (lists i)) (blocking_from K lists M d' (i + 1))
    unfolding blocking_from
    list_open = inv ∙ rw n (rw add-one)

    pub list-found : (j : ℕ) → some j ≡ first_on K M i (lists i) → Blocking i j ≡ answer
    unfolding blocking_or
    list-found j e = sym (list_open ∙ rw (← e))

    pub list-none : none ≡ first_on K M i (lists i) → answer ≡ blocking_from K lists M d' (i + 1)
    unfolding blocking_or
    list-none e = list_open ∙ rw (← e)

  pub lists-done : d ≡ 0 → Tested.Stable ≡ answer
  unfolding blocking_from
  lists-done n = sym (inv ∙ rw n)

pub lists-start : (K : Market) (lists : ℕ → List ℕ) (M : Table) (n : ℕ) → blocking_from K lists M n 1 ≡ blocking_from K lists M (n + 1 - 1) 1
lists-start K lists M n = let z : n ≡ n + 1 - 1 = omega arith in ap (λ d. blocking_from K lists M d 1) z
