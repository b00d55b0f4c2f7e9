-- What is chosen from the rows is what the meaning chooses from the struck set.
-- Assumes nothing.
use Prim.Native.Nat.{ℕ, ◌+◌, ◌-◌, ◌≤◌, ◌<◌}
use mathlib.Core.Path.{◌≡◌, refl, sym, ap, ◌∙◌, subst}
use mathlib.Core.Logic.{◌⊎◌, inl, inr, ⊎_elim}
use mathlib.Core.Bool.{Bool, true, false, not}
use mathlib.Core.Option.{Option, none, some}
use mathlib.Core.List.{List}
use native.Mathlib.Omega.{arith}
use native.Mathlib.Nat.{add-zero}
use lib.ListN.{get_or, take}
use lib.Dec.{ltb, leb, eqb}
use borrow.Author.Tests.{ltb-true, ltb-false, lt-ltb, leb-true, le-leb, eqb-false, ne_eqb, not-true, not-false}
use Rattle.reasons.specs.Rows.{RowsHold, row_pairs, standing_of, OrderRows}
use Rattle.reasons.specs.Scans.{count_in, least_in}
use Rattle.reasons.specs.Reasons.{settled, above_of, number_or, depot_at, held_elsewhere, choice_in}
use Rattle.reasons.proofs.Settled.{above-first, down-first}
use Rattle.reasons.proofs.Counts.{count-list}
use Rattle.reasons.proofs.Least.{smallest-list}
use Rattle.meaning.specs.Numbers.{In, ◌&◌, smallest}
use Rattle.meaning.specs.Lists.{place}
use Rattle.meaning.specs.Market.{Standing, Mutual}
use Rattle.meaning.specs.Strikes.{Struck, above_struck, down_struck, ahead, fits}
use Rattle.meaning.specs.Solver.{lowest, choose}
use Rattle.meaning.proofs.Booleans.{true-or-false, never, iff, and_left, and_right, and_intro}
use Rattle.meaning.proofs.Numbers.{order, same, count-cong, Smallest, least, no-least, smallest-is}
use Rattle.meaning.proofs.Pairs.{ahead-pair, ahead-less, ahead-intro}
use Rattle.rows.specs.Marks.{is_marked, with_mark, turned}
use Rattle.rows.specs.Left.{first_place_left}
use Rattle.rows.proofs.Marking.{marked-at-place, marked-elsewhere, turned-at}
use Rattle.rows.proofs.FirstPlace.{before-first-marked, first-unmarked}
use Rattle.tables.proofs.Tests.{in_within}
use Rattle.tables.proofs.Entries.{inside}
use Rattle.ranks.specs.View.{n_of, m_of, wishes_of, ranking_of, posts_of, market_of, Names, FullTables}
use Rattle.ranks.proofs.Places.{front-test, once-take, names-take}
use Rattle.ranks.proofs.Tables.{ranged-tables}
use Rattle.meaning.specs.declared.Reason.TheVariants.{Barred, HeldElsewhere, PostsGone, Passed}

-- ---- a depot found in a row of holds

-- the smallest depot other than j, of 1 to m, whose place is marked
pub elsewhere-same : (m row j : ℕ) → m ≤ 64 → 1 ≤ j → j ≤ 64 → ((p : ℕ) → p < 64 → is_marked row p ≡ true → p < m)
    → (g : ℕ → Bool) → ((k : ℕ) → In m k → g k ≡ is_marked row (k - 1) & not (eqb k j)) → smallest m g ≡ held_elsewhere row j
unfolding held_elsewhere depot_at
elsewhere-same m row j few low high inside g same_test = go (true-or-false (ltb (first_place_left free) 64))
  where
    free : ℕ
    free = with_mark (turned row) (j - 1)

    -- a place is left in the turned row exactly if it is marked in the row and isn't j's
    left_is : (p : ℕ) → p < 64 → is_marked free p ≡ false → (is_marked row p ≡ true) × (p ≡ j - 1 → ⊥)
    left_is p l u = ⊎_elim
        (λ (e : p ≡ j - 1). absurd (never (subst (λ x. is_marked free x ≡ true) (sym e) (marked-at-place (turned row) (j - 1) (omega arith))) u))
        (λ ne. (not-false _ (sym (turned-at row p l) ∙ sym (marked-elsewhere (turned row) (j - 1) p ne) ∙ u), ne))
        (same p (j - 1))

    is-left-there : (p : ℕ) → p < 64 → is_marked row p ≡ true → (p ≡ j - 1 → ⊥) → is_marked free p ≡ false
    is-left-there p l t ne = marked-elsewhere (turned row) (j - 1) p ne ∙ turned-at row p l ∙ ap not t

    pass : (k : ℕ) → In m k → g k ≡ true → is_marked free (k - 1) ≡ false
    pass k r t =
        let u = sym (same_test k r) ∙ t in
        is-left-there (k - 1) (omega (arith, r.low, r.high)) (and_left _ _ u)
        (λ e. eqb-false k j (not-true _ (and_right (is_marked row (k - 1)) _ u)) (omega (arith, r.low)))

    go : (ltb (first_place_left free) 64 ≡ true) ⊎ (ltb (first_place_left free) 64 ≡ false) → smallest m g ≡ elim (ltb (first_place_left free) 64) [ true ↦ some (first_place_left free + 1) | false ↦ none ]
    go (inl t) =
        let l = ltb-true (first_place_left free) 64 t in
        let w = left_is (first_place_left free) l (first-unmarked free) in
        let i : In m (first_place_left free + 1) = record { low = omega arith; high = omega (arith, inside (first_place_left free) l w.0) } in
        let q : first_place_left free + 1 - 1 ≡ first_place_left free = omega arith in
        let gt : g (first_place_left free + 1) ≡ true = same_test (first_place_left free + 1) i
        ∙ and_intro (rw q w.0) (ap not (ne_eqb (first_place_left free + 1) j (λ e. w.1 (omega arith)))) in
        rw t (found (smallest m g) (smallest-is m g) i gt)
      where
        found : (o : Option ℕ) → Smallest m g o → In m (first_place_left free + 1) → g (first_place_left free + 1) ≡ true → o ≡ some (first_place_left free + 1)
        found _ (no-least h) i gt = absurd (never gt (h _ i))
        found _ (least k r u h) i gt = ap some (⊎_elim
            (λ (l : k ≤ first_place_left free). absurd (never (before-first-marked free (k - 1) (omega (arith, r.low))) (pass k r u)))
            (λ (l : first_place_left free < k). ⊎_elim
            (λ (e : k ≤ first_place_left free + 1). omega arith)
            (λ (e : first_place_left free + 1 < k). absurd (never gt (h (first_place_left free + 1) i e)))
            (order k (first_place_left free + 1)))
            (order k (first_place_left free)))
    go (inr u) = rw u (no-depot (smallest m g) (smallest-is m g))
      where
        no-depot : (o : Option ℕ) → Smallest m g o → o ≡ none
        no-depot _ (no-least h) = refl
        no-depot _ (least k r t h) = absurd (never (before-first-marked free (k - 1) (omega (arith, r.low, r.high, ltb-false (first_place_left free) 64 u))) (pass k r t))

-- ---- reasons 3 and 4, read along the depot's list

module _ (h e : List ℕ) (ft : FullTables h e) (O : Standing) (S : Struck) (rows : List ℕ) (hold : RowsHold (market_of h e) (wishes_of h e) S rows) (i j : ℕ)
    (ranked : 0 < place (ranking_of h e j) i) where
  -- k is ahead of i at j and passes, exactly if it stands above i on j's list and its row says so
  ahead-test : (a : ℕ) (T : ℕ → Bool) → ((k : ℕ) → Mutual (market_of h e) k j → T k ≡ leb (place (wishes_of h e k) j) (first_place_left (get_or rows k 0) + a))
      → (k : ℕ) → (ahead (market_of h e) i j k & T k) ≡ (ltb 0 (place (above_of h e i j) k) & settled h e rows a j k)
  unfolding market_of above_of settled
  ahead-test a T law k = iff there back
    where
      there : (ahead (market_of h e) i j k & T k) ≡ true
          → (ltb 0 (place (take (place (ranking_of h e j) i - 1) (ranking_of h e j)) k) & (ltb 0 (place (wishes_of h e k) j) & leb (place (wishes_of h e k) j) (first_place_left (get_or rows k 0) + a))) ≡ true
      there t =
          let m = ahead-pair (market_of h e) i j k (and_left _ _ t) in
          let l = ahead-less (market_of h e) i j k (and_left _ _ t) in
          and_intro
          (front-test (ranking_of h e j) k (place (ranking_of h e j) i - 1)
          ∙ and_intro (lt-ltb 0 (place (ranking_of h e j) k) m.ranked) (le-leb (place (ranking_of h e j) k) (place (ranking_of h e j) i - 1) (omega arith)))
          (and_intro (lt-ltb _ _ m.ranks) (sym (law k m) ∙ and_right (ahead (market_of h e) i j k) _ t))

      back : (ltb 0 (place (take (place (ranking_of h e j) i - 1) (ranking_of h e j)) k) & (ltb 0 (place (wishes_of h e k) j) & leb (place (wishes_of h e k) j) (first_place_left (get_or rows k 0) + a))) ≡ true
          → (ahead (market_of h e) i j k & T k) ≡ true
      back t =
          let f = sym (front-test (ranking_of h e j) k (place (ranking_of h e j) i - 1)) ∙ and_left _ _ t in
          let s = and_right (ltb 0 (place (take (place (ranking_of h e j) i - 1) (ranking_of h e j)) k)) _ t in
          let m : Mutual (market_of h e) k j = record { ranks = ltb-true _ _ (and_left _ _ s); ranked = ltb-true _ _ (and_left _ _ f) } in
          let l = leb-true (place (ranking_of h e j) k) (place (ranking_of h e j) i - 1) (and_right (ltb 0 (place (ranking_of h e j) k)) _ f) in
          and_intro (ahead-intro (market_of h e) i j k m (omega arith)) (law k m ∙ and_right (ltb 0 (place (wishes_of h e k) j)) _ s)

  above-names : Names (n_of h) (above_of h e i j)
  unfolding above_of
  above-names = names-take (n_of h) (place (ranking_of h e j) i - 1) (ranking_of h e j) (ft.depot_names j)

  pub gone_same : leb (posts_of h j) (count_in (settled h e rows 1 j) (above_of h e i j)) ≡ fits (market_of h e) O S i j PostsGone
  unfolding fits market_of above_of
  gone_same = ap (leb (posts_of h j)) (sym (
      count-cong (n_of h) _ _ (λ k _. ahead-test 1 (λ k. above_struck (market_of h e) S k j)
      (λ k m. above-first (market_of h e) (ranged-tables h e ft) (wishes_of h e) (λ i j. refl) ft.trainee_short S rows hold k j m) k)
      ∙ count-list (n_of h) (settled h e rows 1 j) (above_of h e i j) (once-take (ranking_of h e j) (place (ranking_of h e j) i - 1) (ft.depot_once j)) above-names))

  pub passed-test : (k : ℕ) → fits (market_of h e) O S i j (Passed k) ≡ (ltb 0 (place (above_of h e i j) k) & settled h e rows 0 j k)
  unfolding fits market_of
  passed-test k = ahead-test 0 (λ k. down_struck (market_of h e) S k j)
      (λ k m. down-first (market_of h e) (ranged-tables h e ft) (wishes_of h e) (λ i j. refl) ft.trainee_short S rows hold k j m ∙ rw add-zero) k

  passed-same : smallest (n_of h) (λ k. fits (market_of h e) O S i j (Passed k)) ≡ number_or (least_in (settled h e rows 0 j) (above_of h e i j) 0)
  passed-same = smallest-list (settled h e rows 0 j) (n_of h) (above_of h e i j) above-names _ (λ k _. passed-test k)

-- ---- the choice

module _ (h e holds bars : List ℕ) (ft : FullTables h e) (orders : OrderRows h holds bars) (S : Struck) (rows : List ℕ)
    (hold : RowsHold (market_of h e) (wishes_of h e) S rows) (i j : ℕ) (ri : In (n_of h) i) (rj : In (m_of h) j) (ranked : 0 < place (ranking_of h e j) i) where
  pub barred-same : is_marked (get_or bars i 0) (j - 1) ≡ fits (market_of h e) (standing_of h holds bars) S i j Barred
  unfolding fits standing_of row_pairs ◌&◌
  barred-same = rw (in_within _ _ ri, in_within _ _ rj)

  pub elsewhere-test : (k : ℕ) → In (m_of h) k → fits (market_of h e) (standing_of h holds bars) S i j (HeldElsewhere k) ≡ is_marked (get_or holds i 0) (k - 1) & not (eqb k j)
  unfolding fits standing_of row_pairs ◌&◌
  elsewhere-test k rk = rw (in_within _ _ ri, in_within _ _ rk)

  pub choice-same : choice_in h e holds bars rows i j ≡ choose (market_of h e) (standing_of h holds bars) S i j
  unfolding choice_in choose market_of
  choice-same =
      let a = barred-same in
      let w = elsewhere-same (m_of h) (get_or holds i 0) j ft.few_depots rj.low (omega (arith, rj.high, ft.few_depots)) (orders.holds_inside i ri)
      (λ k. fits (market_of h e) (standing_of h holds bars) S i j (HeldElsewhere k)) elsewhere-test in
      let b = gone_same h e ft (standing_of h holds bars) S rows hold i j ranked in
      let v = passed-same h e ft (standing_of h holds bars) S rows hold i j ranked in
      λ t. lowest (a t) (sym w t) (b t) (sym v t)
