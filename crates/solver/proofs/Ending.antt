-- What the rows say at the end is what the set of struck pairs says: the left table, a broken hold, room.
-- Assumes nothing.
use Prim.Native.Nat.{ℕ, suc, ◌+◌, ◌-◌, ◌≤◌, ◌<◌}
use mathlib.Core.Path.{◌≡◌, refl, sym, ap, ◌∙◌, fun_ext}
use mathlib.Core.Logic.{◌⊎◌, inl, inr}
use mathlib.Core.Bool.{Bool, true, false, not}
use mathlib.Core.Option.{Option, none}
use mathlib.Core.List.{List}
use native.Mathlib.Omega.{arith}
use native.Mathlib.Nat.{add-zero}
use lib.ListN.{length, get_or}
use lib.Dec.{ltb, leb}
use borrow.Author.Tests.{ltb-true, lt-ltb, le-ltb}
use Rattle.solver.specs.Ends.{struck_in, broken_in}
use Rattle.solver.proofs.Lawful.{listed-tables}
use Rattle.meaning.specs.Numbers.{In, ◌&◌, smallest}
use Rattle.meaning.specs.Lists.{place}
use Rattle.meaning.specs.Market.{Market, Table, Mutual, mutual?, placed}
use Rattle.meaning.specs.Strikes.{Struck, down_struck, left?}
use Rattle.meaning.specs.Endings.{left_of, room?}
use Rattle.meaning.proofs.Booleans.{true-or-false, never, is_false, iff, and_left, and_right, and_intro}
use Rattle.meaning.proofs.Numbers.{Smallest, least, no-least, smallest-is}
use Rattle.meaning.proofs.Pairs.{mutual-is, is-mutual}
use Rattle.meaning.proofs.Left.{at_left}
use Rattle.rows.specs.Marks.{is_marked}
use Rattle.rows.specs.Left.{first_place_left}
use Rattle.ranks.specs.View.{n_of, wishes_of, ranking_of, posts_of, market_of, FullTables}
use Rattle.ranks.proofs.Places.{place-le, at_place}
use Rattle.ranks.proofs.Tables.{ranged-tables}
use Rattle.reasons.specs.Left.{left_cell, open_at}
use Rattle.reasons.specs.Rows.{marked_at, RowsHold}
use Rattle.reasons.specs.Scans.{least_in}
use Rattle.reasons.specs.Reasons.{settled, number_or}
use Rattle.reasons.proofs.Settled.{down-first}
use Rattle.reasons.proofs.Lefts.{open-same, cell-same}
use Rattle.reasons.proofs.Least.{smallest-list}

-- ---- the struck pairs of rows

not_left : (K : Market) (S : Struck) (i j : ℕ) → mutual? K i j ≡ true → (true & not (left? K S i j)) ≡ S i j
unfolding left? ◌&◌
not_left K S i j t = rw t (go (S i j))
  where
    go : (b : Bool) → not (not b) ≡ b
    go true = refl
    go false = refl

module _ (h e : List ℕ) (ft : FullTables h e) (S : Struck) (rows : List ℕ) (hold : RowsHold (market_of h e) (wishes_of h e) S rows) where
  -- the mark at a depot's place says whether the pair is left
  pub mark_of : (i j p : ℕ) → In (n_of h) i → place (wishes_of h e i) j ≡ suc p → is_marked (get_or rows i 0) p ≡ not (left? (market_of h e) S i j)
  unfolding RowsHold marked_at market_of ◌&◌
  mark_of i j p r q =
      let l : p < length (wishes_of h e i) = omega (arith, q, place-le (wishes_of h e i) j) in
      hold i r p (omega (arith, l, ft.trainee_short i)) ∙ rw (lt-ltb p (length (wishes_of h e i)) l, at_place (wishes_of h e i) j p q)

  pub struck-in : ((i j : ℕ) → S i j ≡ true → mutual? (market_of h e) i j ≡ true) → struck_in h e rows ≡ S
  unfolding struck_in market_of ◌&◌
  struck-in pairs = fun_ext (λ i. fun_ext (λ j. one i j (true-or-false (mutual? (market_of h e) i j))))
    where
      one : (i j : ℕ) → (mutual? (market_of h e) i j ≡ true) ⊎ (mutual? (market_of h e) i j ≡ false)
          → (mutual? (market_of h e) i j & is_marked (get_or rows i 0) (place (wishes_of h e i) j - 1)) ≡ S i j
      one i j (inl t) =
          let m = mutual-is (market_of h e) i j t in
          let k : place (wishes_of h e i) j ≡ suc (place (wishes_of h e i) j - 1) = omega (arith, listed-tables h e i j, m.ranks) in
          rw (t, mark_of i j (place (wishes_of h e i) j - 1) ((ranged-tables h e ft).trainee_in_range i j m.ranks) k) (not_left (market_of h e) S i j t)
      one i j (inr u) = rw u (sym (is_false (S i j) (λ s. never (pairs i j s) u)))

-- ---- the left table, and a held pair that is broken

module _ (h e : List ℕ) (ft : FullTables h e) (S : Struck) (rows : List ℕ) (hold : RowsHold (market_of h e) (wishes_of h e) S rows) (i : ℕ) (r : In (n_of h) i) where
  -- the cell that the rows lay is the meaning's
  pub left-table-same : left_of (market_of h e) (wishes_of h e) S i ≡ left_cell h e rows i
  unfolding market_of
  left-table-same = at_left (market_of h e) (ranged-tables h e ft) (wishes_of h e) (listed-tables h e) S i r ∙ sym (cell-same h e ft S rows hold i r)

-- what is not open by the rows is broken
pub open-broken : (h e rows : List ℕ) → FullTables h e → RowsHold (market_of h e) (wishes_of h e) (struck_in h e rows) rows → (i j : ℕ) → In (n_of h) i
    → not (open_at h e rows i j) ≡ broken_in h e rows i j
unfolding broken_in
open-broken h e rows ft hold i j r = ap not (open-same h e ft (struck_in h e rows) rows hold i j r)

-- ---- room at a depot

module _ (h e rows : List ℕ) (ft : FullTables h e) (S : Struck) (hold : RowsHold (market_of h e) (wishes_of h e) S rows) (L : Table) (j : ℕ) where
  -- with room at j, the test of kind 2 is read off the depot's list and the rows
  room-test : ltb (placed (market_of h e) L j) (posts_of h j) ≡ true → (i : ℕ) → room? (market_of h e) S L i j ≡ ltb 0 (place (ranking_of h e j) i) & settled h e rows 0 j i
  unfolding room? market_of settled
  room-test t i = iff there back
    where
      down : Mutual (market_of h e) i j → down_struck (market_of h e) S i j ≡ leb (place (wishes_of h e i) j) (first_place_left (get_or rows i 0) + 0)
      down m =
          down-first (market_of h e) (ranged-tables h e ft) (wishes_of h e) (listed-tables h e) ft.trainee_short S rows hold i j m
          ∙ ap (leb (place (wishes_of h e i) j)) (sym (add-zero (first_place_left (get_or rows i 0))))

      there : room? (market_of h e) S L i j ≡ true → (ltb 0 (place (ranking_of h e j) i) & (ltb 0 (place (wishes_of h e i) j) & leb (place (wishes_of h e i) j) (first_place_left (get_or rows i 0) + 0))) ≡ true
      there u =
          let m = mutual-is (market_of h e) i j (and_left _ _ u) in
          and_intro (lt-ltb _ _ m.ranked) (and_intro (lt-ltb _ _ m.ranks) (sym (down m) ∙ and_left _ _ (and_right (mutual? (market_of h e) i j) _ u)))

      back : (ltb 0 (place (ranking_of h e j) i) & (ltb 0 (place (wishes_of h e i) j) & leb (place (wishes_of h e i) j) (first_place_left (get_or rows i 0) + 0))) ≡ true → room? (market_of h e) S L i j ≡ true
      back u =
          let s = and_right (ltb 0 (place (ranking_of h e j) i)) _ u in
          let m : Mutual (market_of h e) i j = record { ranks = ltb-true _ _ (and_left _ _ s); ranked = ltb-true _ _ (and_left _ _ u) } in
          and_intro (is-mutual (market_of h e) i j m) (and_intro (down m ∙ and_right (ltb 0 (place (wishes_of h e i) j)) _ s) t)

  pub room-least : placed (market_of h e) L j < posts_of h j → smallest (n_of h) (λ i. room? (market_of h e) S L i j) ≡ number_or (least_in (settled h e rows 0 j) (ranking_of h e j) 0)
  room-least l = smallest-list (settled h e rows 0 j) (n_of h) (ranking_of h e j) (ft.depot_names j) _ (λ i _. room-test (lt-ltb _ _ l) i)

  pub room-taken : posts_of h j ≤ placed (market_of h e) L j → smallest (n_of h) (λ i. room? (market_of h e) S L i j) ≡ none
  unfolding room? market_of
  room-taken l = go (smallest (n_of h) (λ i. room? (market_of h e) S L i j)) (smallest-is (n_of h) (λ i. room? (market_of h e) S L i j))
    where
      go : (o : Option ℕ) → Smallest (n_of h) (λ i. room? (market_of h e) S L i j) o → o ≡ none
      go _ (no-least g) = refl
      go _ (least i r t g) = absurd (never (and_right (down_struck (market_of h e) S i j) _ (and_right (mutual? (market_of h e) i j) _ t)) (le-ltb (placed (market_of h e) L j) (posts_of h j) l))
