-- The walk over lists and orders: each way through the code, against the decoder. Assumes nothing.
use Prim.Native.Nat.{ℕ, zero, suc, ◌+◌, ◌-◌, ◌*◌, ◌≤◌, ◌<◌}
use mathlib.Core.Path.{◌≡◌, refl, sym, ap, ap₂, ◌∙◌}
use mathlib.Core.Bool.{Bool, true, false, ◌&&◌, false≢true}
use mathlib.Core.Logic.{◌⊎◌, inl, inr}
use mathlib.Core.Option.{Option, none, some}
use mathlib.Core.List.{List, [], ◌∷◌}
use native.Mathlib.Omega.{arith}
use lib.ListN.{length, get_or, take, drop, length-drop}
use Rattle.std.proofs.Common.{get_or-drop}
use lib.Seq.{drop-cons, drop-drop, length-take-le}
use lib.Dec.{leb, eqb}
use borrow.Author.Tests.{le-leb, lt-leb, eq-eqb, ne_eqb}
use Rattle.meaning.specs.Numbers.{◌&◌}
use Rattle.meaning.specs.Lists.{weigh}
use Rattle.meaning.specs.Placement.{Kind, Order, Depot, depot, size, depot_size}
use Rattle.meaning.proofs.Booleans.{some-own, none-some}
use Rattle.tables.proofs.Tests.{when-goes, when-stops}
use Rattle.tables.specs.Cells.{missing_cell, CellGives, weightless, depot_start}
use Rattle.std.specs.Option.{MatchOption}
use Rattle.tables.specs.Decode.{within, next, when, good_entries, list_from, posts_from, trainee_from, depot_from, kind_from, pair_from, order_from, series_from, trainees_from, depots_from, orders_from, limits, Sides, lists_from, sides_of, orders_of, few_orders_of, placement_with, placement_of}
use Rattle.tables.specs.Walk.{is_some, end_of, Ends, all_posts}
use Rattle.std.specs.Prelude.{Option as Answer, Some, None, slice_range}
use Rattle.std.specs.List.{range_with_len, list_all}
use Rattle.tables.proofs.Series.{two_cells, three-cells, series-count}
use Rattle.tables.proofs.Round.{sides-count}

-- ---- one list

module _ (hi v s : ℕ) (e : List ℕ) where
  pub list-not-received : v ≡ missing_cell → end_of size s (list_from hi v (drop s e)) ≡ some s
  unfolding list_from size
  list-not-received h = let z : s + 0 ≡ s = omega arith in rw (eq-eqb v missing_cell h, list_from) (ap some z)

  module _ (given : v ≡ missing_cell → ⊥) where
    abbrev fits : Bool
    fits = leb v hi & leb v (length (drop s e)) & good_entries hi (take v (drop s e))

    list-when : list_from hi v (drop s e) ≡ when fits (some (some (take v (drop s e))))
    unfolding list_from
    list-when = rw (ne_eqb v missing_cell given, list_from)

    list-no : fits ≡ false → end_of size s (list_from hi v (drop s e)) ≡ none
    list-no h = rw (list-when, when-stops fits _ h)

    pub list-long : hi < v → end_of size s (list_from hi v (drop s e)) ≡ none
    unfolding ◌&◌
    list-long h = list-no (rw (lt-leb v hi h))

    and-turned : (a b : Bool) → a & b ≡ (b & a)
    unfolding ◌&◌
    and-turned true true = refl
    and-turned true false = refl
    and-turned false true = refl
    and-turned false false = refl

    pub list-past : s ≤ length e → (s + v < s) ⊎ (length e < s + v) → end_of size s (list_from hi v (drop s e)) ≡ none
    unfolding ◌&◌
    list-past r k =
        let t : length e - s < v = elim k [ inl x ↦ omega arith | inr y ↦ omega arith ] in
        list-no (and-turned (leb v hi) _ ∙ rw (length-drop s e, lt-leb v (length e - s) t))

    module _ (p : List ℕ) (is : p ≡ slice_range e s (s + v)) (rest : s + v ≤ length e) where
      part-is : p ≡ take v (drop s e)
      part-is = let z : s + v - s ≡ v = omega arith in is ∙ rw z

      room : v ≤ length (drop s e)
      room = rw length-drop (omega arith)

      pub list-bad : good_entries hi p ≡ false → end_of size s (list_from hi v (drop s e)) ≡ none
      unfolding ◌&◌
      list-bad g = list-no (and-turned (leb v hi) _ ∙ rw (le-leb v (length (drop s e)) room, sym part-is, g))

      pub list-fits : v ≤ hi → good_entries hi p ≡ true → end_of size s (list_from hi v (drop s e)) ≡ some (s + v)
      unfolding size ◌&◌
      list-fits k g =
          let n : length (take v (drop s e)) ≡ v = length-take-le v (drop s e) room in
          let f : fits ≡ true = rw (le-leb v hi k, le-leb v (length (drop s e)) room, sym part-is, g) in
          rw (list-when, when-goes fits _ f) (rw n)

-- ---- one trainee

module _ (m s at : ℕ) (h es : List ℕ) (k : at + 1 < length h) where
  trainee-is : trainee_from m s (drop at h) es ≡ when (eqb (get_or h at 0) s) (list_from m (get_or h (at + 1) 0) es)
  unfolding trainee_from
  trainee-is = rw (two_cells h at k)

  pub trainee-wrong : (get_or h at 0 ≡ s → ⊥) → end_of size s (trainee_from m s (drop at h) es) ≡ none
  trainee-wrong g = rw (trainee-is, when-stops _ (list_from m (get_or h (at + 1) 0) es) (ne_eqb _ _ g))

  pub trainee-goes : (v : ℕ) → get_or h at 0 ≡ s → v ≡ get_or h (at + 1) 0 → end_of size s (trainee_from m s (drop at h) es) ≡ end_of size s (list_from m v es)
  trainee-goes v g z = rw (trainee-is, when-goes _ (list_from m (get_or h (at + 1) 0) es) (eq-eqb _ _ g)) (ap (λ v. end_of size s (list_from m v es)) (sym z))

-- ---- one after the other

end-cons : {A : Type 0} (weight : A → ℕ) (s : ℕ) (a : A) (o : Option (List A))
    → end_of (weigh weight) s (next o (λ r. some (a ∷ r))) ≡ end_of (weigh weight) (s + weight a) o
unfolding next weigh
end-cons weight s a none = refl
end-cons weight s a (some r) = let z : s + (weight a + weigh weight r) ≡ s + weight a + weigh weight r = omega arith in ap some z

module _ {A : Type 0} (one : ℕ → List ℕ → List ℕ → Option A) (weight : A → ℕ) (wide : ℕ) (h e : List ℕ) (at s d : ℕ) (whole : Option ℕ)
    (inv : whole ≡ end_of (weigh weight) s (series_from one weight wide d s (drop at h) (drop s e))) where
  series-step : (d' : ℕ) (a : A) → one s (drop at h) (drop s e) ≡ some a
      → series_from one weight wide (suc d') s (drop at h) (drop s e)
      ≡ next (series_from one weight wide d' (s + weight a) (drop wide (drop at h)) (drop (weight a) (drop s e))) (λ r. some (a ∷ r))
  unfolding series_from next
  series-step d' a y = rw y

  pub left-more : (d' at' t : ℕ) → d ≡ suc d' → at' ≡ at + wide → end_of weight s (one s (drop at h) (drop s e)) ≡ some t
      → whole ≡ end_of (weigh weight) t (series_from one weight wide d' t (drop at' h) (drop t e))
  left-more d' at' t n x g = go (one s (drop at h) (drop s e)) refl g
    where
      go : (o : Option A) → one s (drop at h) (drop s e) ≡ o → end_of weight s o ≡ some t
          → whole ≡ end_of (weigh weight) t (series_from one weight wide d' t (drop at' h) (drop t e))
      go none y z = let w : ◌≡◌ {A = ℕ} 0 1 = cc in absurd (omega arith)
      go (some a) y z =
          let q : s + weight a ≡ t = cc in
          let u : drop wide (drop at h) ≡ drop at' h = drop-drop wide at h ∙ ap (λ i. drop i h) (sym x) in
          let v : drop (weight a) (drop s e) ≡ drop t e = drop-drop (weight a) s e ∙ ap (λ i. drop i e) q in
          inv ∙ ap (λ i. end_of (weigh weight) s (series_from one weight wide i s (drop at h) (drop s e))) n ∙ ap (end_of (weigh weight) s) (series-step d' a y) ∙ end-cons weight s a (series_from one weight wide d' (s + weight a) (drop wide (drop at h)) (drop (weight a) (drop s e)))
          ∙ rw (u, v, q)

  pub left-none : (d' : ℕ) → d ≡ suc d' → end_of weight s (one s (drop at h) (drop s e)) ≡ none → whole ≡ none
  unfolding series_from next
  left-none d' n g = go (one s (drop at h) (drop s e)) refl g
    where
      go : (o : Option A) → one s (drop at h) (drop s e) ≡ o → end_of weight s o ≡ none → whole ≡ none
      go none y z = inv ∙ rw (n, y)
      go (some a) y z = let w : ◌≡◌ {A = ℕ} 0 1 = cc in absurd (omega arith)

  pub left-done : d ≡ 0 → whole ≡ some s
  unfolding series_from weigh
  left-done n = let z : s + 0 ≡ s = omega arith in inv ∙ rw n (ap some z)

-- ---- where the lists of one side end

-- d are left, with cells from `at` on and entries from s on; the end of them all is `whole`
pub record Left {A : Type 0} (one : ℕ → List ℕ → List ℕ → Option A) (weight : A → ℕ) (wide : ℕ) (h e : List ℕ) (whole : Option ℕ) (at s d : ℕ) : Type 0 where
  pub inside : s ≤ length e
  pub rest : whole ≡ end_of (weigh weight) s (series_from one weight wide d s (drop at h) (drop s e))

module _ {A : Type 0} (one : ℕ → List ℕ → List ℕ → Option A) (weight : A → ℕ) (wide : ℕ) (h e : List ℕ) (whole : Option ℕ) (at s d : ℕ) (l : Left one weight wide h e whole at s d) where
  pub walk-none : (d' : ℕ) → d ≡ suc d' → Ends (length e) (end_of weight s (one s (drop at h) (drop s e))) None → whole ≡ none
  walk-none d' n y = left-none one weight wide h e at s d whole l.rest d' n y

  pub walk-on : (at' d' t : ℕ) → d ≡ suc d' → at' ≡ at + wide
      → Ends (length e) (end_of weight s (one s (drop at h) (drop s e))) (Some t) → Left one weight wide h e whole at' t d'
  walk-on at' d' t n w y = record { inside = y.1; rest = left-more one weight wide h e at s d whole l.rest d' at' t n w y.0 }

  pub walk-done : d ≡ 0 → Ends (length e) whole (Some s)
  walk-done n = (left-done one weight wide h e at s d whole l.rest n, l.inside)

-- ---- posts

when-some : {A : Type 0} (b : Bool) (a : A) → b ≡ is_some (when b (some a))
unfolding when
when-some true a = refl
when-some false a = refl

pub posts-tests : (v : ℕ) (r : Answer ℕ) (b : Bool) {Q : ℕ → Type 0} → CellGives v r → MatchOption r (b ≡ true) Q → ((w : ℕ) → Q w → b ≡ leb w 256) → b ≡ is_some (posts_from v)
unfolding posts_from
posts-tests v (Some w) b k m q = rw (ne_eqb v missing_cell k.1, posts_from) (q w m ∙ ap (λ x. leb x 256) k.0 ∙ when-some (leb v 256) (some v))
posts-tests v None b k m q = rw (eq-eqb v missing_cell k, posts_from) m

pub posts-each : (n : ℕ) (h : List ℕ) (d j : ℕ)
    → list_all (λ j. is_some (posts_from (get_or h (depot_start n j + 2) 0))) (range_with_len j d) ≡ all_posts d (drop (depot_start n j) h)
unfolding all_posts ◌&◌
posts-each n h zero j = refl
posts-each n h (suc d) j =
    let z : depot_start n j + 3 ≡ depot_start n (j + 1) = omega arith in
    ap₂ ◌&&◌ (ap (λ p. is_some (posts_from p)) (sym (get_or-drop (depot_start n j) h 2 0)))
    (posts-each n h d (j + 1) ∙ sym (ap (all_posts d) (drop-drop 3 (depot_start n j) h ∙ ap (λ i. drop i h) z)))
    ∙ go (is_some (posts_from (get_or (drop (depot_start n j) h) 2 0))) (all_posts d (drop 3 (drop (depot_start n j) h)))
  where
    go : (a b : Bool) → a && b ≡ a & b
    go true b = refl
    go false b = refl

-- a depot is a list with posts, so the lists' cells, three by three, and the posts decide alone
depots-are : (n : ℕ) (d s : ℕ) (hs es : List ℕ) → 3 * d ≤ length hs
    → end_of (weigh depot_size) s (series_from (depot_from n) depot_size 3 d s hs es)
    ≡ when (all_posts d hs) (end_of (weigh size) s (series_from (trainee_from n) size 3 d s hs es))
unfolding series_from all_posts when weigh next ◌&◌ depot_size depot_from trainee_from
depots-are n zero s hs es k = refl
depots-are n (suc d) s [] es k = absurd (omega arith)
depots-are n (suc d) s (a ∷ []) es k = absurd (omega arith)
depots-are n (suc d) s (a ∷ v ∷ []) es k = absurd (omega arith)
depots-are n (suc d) s (a ∷ v ∷ p ∷ hs) es k = go (eqb a s) (posts_from p) (list_from n v es) (λ w. depots-are n d (s + w) hs (drop w es) (omega arith))
  where
    stops : (b : Bool) → ◌≡◌ {A = Option ℕ} none (when b none)
    stops true = refl
    stops false = refl

    go : (b : Bool) (q : Option (Option ℕ)) (l : Option (Option (List ℕ)))
        → ((w : ℕ) → end_of (weigh depot_size) (s + w) (series_from (depot_from n) depot_size 3 d (s + w) hs (drop w es))
        ≡ when (all_posts d hs) (end_of (weigh size) (s + w) (series_from (trainee_from n) size 3 d (s + w) hs (drop w es))))
        → end_of (weigh depot_size) s (next (when b (next q (λ q. next l (λ l. some (depot q l))))) (λ x. next (series_from (depot_from n) depot_size 3 d (s + depot_size x) hs (drop (depot_size x) es)) (λ r. some (x ∷ r))))
        ≡ when (is_some q & all_posts d hs) (end_of (weigh size) s (next (when b l) (λ x. next (series_from (trainee_from n) size 3 d (s + size x) hs (drop (size x) es)) (λ r. some (x ∷ r)))))
    go false q l ih = stops (is_some q & all_posts d hs)
    go true none l ih = refl
    go true (some q) none ih = stops (all_posts d hs)
    go true (some q) (some l) ih =
        end-cons depot_size s (depot q l) (series_from (depot_from n) depot_size 3 d (s + size l) hs (drop (size l) es)) ∙ ih (size l)
        ∙ ap (when (all_posts d hs)) (sym (end-cons size s l (series_from (trainee_from n) size 3 d (s + size l) hs (drop (size l) es))))

-- ---- orders: they have no entries, so the end of their walk is 0 exactly if each is one

pub is-some : {A : Type 0} (w : A → ℕ) (s : ℕ) (o : Option A) {t : ℕ} → end_of w s o ≡ some t → true ≡ is_some o
is-some w s none h = none-some h
is-some w s (some a) h = refl

pub is_none : {A : Type 0} (w : A → ℕ) (s : ℕ) (o : Option A) → end_of w s o ≡ none → false ≡ is_some o
is_none w s none h = refl
is_none w s (some a) h = none-some (sym h)

pub some-light : {A : Type 0} (o : Option A) → is_some o ≡ true → end_of weightless 0 o ≡ some 0
unfolding weightless
some-light none h = absurd (false≢true h)
some-light (some a) h = refl

pub none-light : {A : Type 0} (o : Option A) → is_some o ≡ false → end_of weightless 0 o ≡ none
none-light none h = refl
none-light (some a) h = absurd (false≢true (sym h))

module _ (n m at : ℕ) (o : List ℕ) (k : at + 2 < length o) where
  abbrev pair : Kind → Option Order
  pair = pair_from n m (get_or o (at + 1) 0) (get_or o (at + 2) 0)

  order_is : order_from n m 0 (drop at o) [] ≡ next (kind_from (get_or o at 0)) pair
  unfolding order_from
  order_is = rw (three-cells o at k)

  -- the kind is 0 or 1, and both are in range
  pub order-tests : is_some (order_from n m 0 (drop at o) []) ≡ leb (get_or o at 0) 1 & within n (get_or o (at + 1) 0) & within m (get_or o (at + 2) 0)
  unfolding kind_from next when pair_from ◌&◌
  order-tests = rw order_is (go (get_or o at 0))
    where
      when-some : {A : Type 0} (b : Bool) (a : A) → is_some (when b (some a)) ≡ b
      when-some true a = refl
      when-some false a = refl

      go : (x : ℕ) → is_some (next (kind_from x) pair) ≡ leb x 1 & within n (get_or o (at + 1) 0) & within m (get_or o (at + 2) 0)
      go zero = when-some _ _
      go (suc zero) = when-some _ _
      go (suc (suc x)) = rw (lt-leb (suc (suc x)) 1 (omega arith))

-- ---- both sides

pub record Ended {A : Type 0} (w : A → ℕ) (s : ℕ) (o : Option A) (t : ℕ) : Type 0 where
  pub value : A
  pub here : o ≡ some value
  pub sum : t ≡ s + w value

pub ended : {A : Type 0} (w : A → ℕ) (s : ℕ) (o : Option A) {t : ℕ} → end_of w s o ≡ some t → Ended w s o t
ended w s none h = none-some h
ended w s (some a) {t} h = record { value = a; here = refl; sum = sym (some-own h) }

not-ended : {A : Type 0} (w : A → ℕ) (s : ℕ) (o : Option A) → end_of w s o ≡ none → o ≡ none
not-ended w s none h = refl
not-ended w s (some a) h = none-some (sym h)

-- the entries of a side end no further behind s than a side may have
abbrev short : ℕ → Option ℕ → Bool
short s none = false
short s (some f) = leb (f - s) 4096

module _ (ed n m : ℕ) (h e : List ℕ) where
  pub lists-wrong : end_of (weigh size) 0 (trainees_from n m (drop 3 h) e) ≡ none → false ≡ is_some (lists_from ed n m (drop 3 h) e)
  unfolding lists_from next
  lists-wrong g = rw (not-ended (weigh size) 0 (trainees_from n m (drop 3 h) e) g)

  module _ (s : ℕ) (g : end_of (weigh size) 0 (trainees_from n m (drop 3 h) e) ≡ some s) (room : 3 + 2 * n + 3 * m ≤ length h) where
    abbrev both : List (Option (List ℕ)) → Option (List Depot) → Option Sides
    both ts o = next o (λ ds. when (leb (weigh depot_size ds) 4096) (some (record { edition = ed; trainees = ts; depots = ds })))

    abbrev lists : Option ℕ
    lists = end_of (weigh size) s (series_from (trainee_from n) size 3 m s (drop (3 + 2 * n) h) (drop s e))

    -- what decides once the trainees' lists are read
    lists-tests : is_some (lists_from ed n m (drop 3 h) e) ≡ leb s 4096 & short s (when (all_posts m (drop (3 + 2 * n) h)) lists)
    unfolding lists_from next when ◌&◌
    lists-tests =
        let t = ended (weigh size) 0 (trainees_from n m (drop 3 h) e) g in
        let x : weigh size t.value ≡ s = omega (arith, t.sum) in
        let ds = depots_from n m s (drop (3 + 2 * n) h) (drop s e) in
        let k : 3 * m ≤ length (drop (3 + 2 * n) h) = simp length-drop (omega arith) in
        rw (t.here, x, drop-drop (2 * n) 3 h) (go t.value (leb s 4096) ds) ∙ ap (λ o. leb s 4096 & short s o) (depots-are n m s (drop (3 + 2 * n) h) (drop s e) k)
      where
        here : (ts : List (Option (List ℕ))) (ds : Option (List Depot)) → is_some (both ts ds) ≡ short s (end_of (weigh depot_size) s ds)
        here ts none = refl
        here ts (some ds) =
            let z : s + weigh depot_size ds - s ≡ weigh depot_size ds = omega arith in
            sym (rw z (when-some (leb (weigh depot_size ds) 4096) (record { edition = ed; trainees = ts; depots = ds })))

        go : (ts : List (Option (List ℕ))) (b : Bool) (ds : Option (List Depot)) → is_some (when b (both ts ds)) ≡ b & short s (end_of (weigh depot_size) s ds)
        go ts true ds = here ts ds
        go ts false ds = refl

    -- neither too many entries nor posts out of range wait for the depots' lists
    pub lists-long : 4096 < s → false ≡ is_some (lists_from ed n m (drop 3 h) e)
    unfolding ◌&◌
    lists-long k = sym (lists-tests ∙ rw (lt-leb s 4096 k))

    pub lists-shut : all_posts m (drop (3 + 2 * n) h) ≡ false → false ≡ is_some (lists_from ed n m (drop 3 h) e)
    unfolding when ◌&◌
    lists-shut q = sym (lists-tests ∙ rw q (go (leb s 4096)))
      where
        go : (a : Bool) → a & false ≡ false
        go true = refl
        go false = refl

    pub lists-none : lists ≡ none → false ≡ is_some (lists_from ed n m (drop 3 h) e)
    unfolding when ◌&◌
    lists-none q = sym (lists-tests ∙ rw q (go (leb s 4096) (all_posts m (drop (3 + 2 * n) h))))
      where
        go : (a b : Bool) → a & short s (when b none) ≡ false
        go true true = refl
        go true false = refl
        go false b = refl

    pub lists-end : (f : ℕ) → lists ≡ some f → is_some (lists_from ed n m (drop 3 h) e) ≡ leb s 4096 & leb (f - s) 4096 & all_posts m (drop (3 + 2 * n) h)
    unfolding when ◌&◌
    lists-end f q = lists-tests ∙ rw q (go (leb s 4096) (leb (f - s) 4096) (all_posts m (drop (3 + 2 * n) h)) refl)
      where
        go : (a b c : Bool) → b ≡ leb (f - s) 4096 → a & short s (when c (some f)) ≡ a & b & c
        go true true true k = sym k
        go true true false k = refl
        go true false true k = sym k
        go true false false k = refl
        go false b c k = refl

module _ (h e : List ℕ) (k : 2 < length h) (ed n m : ℕ) (x : ed ≡ get_or h 0 0) (y : n ≡ get_or h 1 0) (z : m ≡ get_or h 2 0) where
  sides-are : sides_of h e ≡ when (limits ed n m) (lists_from (get_or h 0 0) n m (drop 3 h) e)
  unfolding sides_of
  sides-are = rw (x, y, z) (ap (λ z. sides_of z e) (three-cells h 0 k))

  pub sides-limits : limits ed n m ≡ false → false ≡ is_some (sides_of h e)
  sides-limits g = sym (ap is_some (sides-are ∙ when-stops _ _ g))

  pub sides-lists : limits ed n m ≡ true → is_some (lists_from (get_or h 0 0) n m (drop 3 h) e) ≡ is_some (sides_of h e)
  sides-lists g = sym (ap is_some (sides-are ∙ when-goes _ _ g))

-- ---- orders, no more than a file may have

module _ (n m : ℕ) (o : List ℕ) (k : 0 < length o) where
  orders-are : orders_of n m o ≡ orders_from n m (get_or o 0 0) (drop 1 o)
  unfolding orders_of
  orders-are = ap (orders_of n m) (drop-cons o 0 0 k)

  abbrev few : Option (List Order) → Option (List Order)
  few x = next x (λ xs. when (leb (length xs) 1024) (some xs))

  counted : (xs : List Order) → orders_from n m (get_or o 0 0) (drop 1 o) ≡ some xs → length xs ≡ get_or o 0 0
  counted xs q = series-count (order_from n m) weightless 3 (get_or o 0 0) 0 (drop 1 o) [] xs q

  pub orders-many : 1024 < get_or o 0 0 → false ≡ is_some (few_orders_of n m o)
  unfolding few_orders_of next
  orders-many l = sym (ap (λ x. is_some (few x)) orders-are ∙ go (orders_from n m (get_or o 0 0) (drop 1 o)) counted)
    where
      go : (x : Option (List Order)) → ((xs : List Order) → x ≡ some xs → length xs ≡ get_or o 0 0) → is_some (few x) ≡ false
      go none c = refl
      go (some xs) c = let z = c xs refl in ap is_some (when-stops _ _ (lt-leb (length xs) 1024 (omega arith)))

  pub orders-few : get_or o 0 0 ≤ 1024 → is_some (orders_from n m (get_or o 0 0) (drop 1 o)) ≡ is_some (few_orders_of n m o)
  unfolding few_orders_of next
  orders-few l = sym (ap (λ x. is_some (few x)) orders-are ∙ go (orders_from n m (get_or o 0 0) (drop 1 o)) counted)
    where
      go : (x : Option (List Order)) → ((xs : List Order) → x ≡ some xs → length xs ≡ get_or o 0 0) → is_some (few x) ≡ is_some x
      go none c = refl
      go (some xs) c = let z = c xs refl in ap is_some (when-goes _ _ (le-leb (length xs) 1024 (omega arith)))

-- ---- the tables

module _ (h e o : List ℕ) where
  pub tables-sides : is_some (sides_of h e) ≡ false → false ≡ is_some (placement_of h e o)
  unfolding placement_of next
  tables-sides k = sym (go (sides_of h e) k)
    where
      go : (b : Option Sides) → is_some b ≡ false → is_some (next b (λ b. next (few_orders_of (length b.trainees) (length b.depots) o) (λ xs. some (placement_with b xs)))) ≡ false
      go none x = refl
      go (some b) x = absurd (false≢true (sym x))

  pub tables-orders : is_some (sides_of h e) ≡ true → is_some (few_orders_of (get_or h 1 0) (get_or h 2 0) o) ≡ is_some (placement_of h e o)
  unfolding placement_of next
  tables-orders k = go (sides_of h e) refl k
    where
      with-sides : (b : Sides) (x : Option (List Order)) → is_some x ≡ is_some (next x (λ xs. some (placement_with b xs)))
      with-sides b none = refl
      with-sides b (some xs) = refl

      go : (q : Option Sides) → sides_of h e ≡ q → is_some q ≡ true
          → is_some (few_orders_of (get_or h 1 0) (get_or h 2 0) o) ≡ is_some (next q (λ b. next (few_orders_of (length b.trainees) (length b.depots) o) (λ xs. some (placement_with b xs))))
      go none x t = absurd (false≢true t)
      go (some b) x t =
          let c = sides-count h e b x in
          ap₂ (λ n m. is_some (few_orders_of n m o)) c.trainees c.depots ∙ with-sides b (few_orders_of (length b.trainees) (length b.depots) o)
