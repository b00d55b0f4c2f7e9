-- Read off rows that hold the struck set, an ending fits exactly if the meaning says so.
-- Assumes nothing.

-- ---- the left table

-- the first left on a list stands at f, where all before f are struck or strangers and f isn't
use Prim.Native.Nat.{ℕ, zero, suc, ◌+◌, ◌-◌, ◌≤◌}
use mathlib.Core.Path.{◌≡◌, refl, sym, ap, ap₂, ◌∙◌, subst}
use mathlib.Core.Logic.{◌⊎◌, inl, inr}
use mathlib.Core.Bool.{Bool, true, false, not}
use mathlib.Core.List.{List, [], ◌∷◌, ◌++◌}
use native.Mathlib.Omega.{arith}
use native.Mathlib.Nat.{add-zero}
use lib.ListN.{get_or, take}
use lib.Dec.{ltb, eqb}
use borrow.Author.Tests.{lt-ltb, eqb-true, eq-eqb, ne_eqb, not-true}
use Rattle.checker.specs.Step.{ordered}
use Rattle.checker.specs.Ends.{left_cells, obeys_rows, all_obey, table_fits, placed_in, broken_in, room_at, room_in, ends_in, NamesTrainee}
use Rattle.rulings.specs.Held.{outcome_in}
use Rattle.checker.proofs.Ways.{and-stops, and-goes}
use Rattle.checker.proofs.Allowed.{open-same}
use Rattle.reasons.proofs.Lefts.{cell-same}
use Rattle.meaning.specs.Numbers.{In, ◌&◌, imp, all}
use Rattle.meaning.specs.Lists.{place}
use Rattle.meaning.specs.Placement.{Order}
use Rattle.meaning.specs.Market.{Market, Standing, standing, Table, mutual?, placed, Respecting}
use Rattle.meaning.specs.Strikes.{Struck, down_struck, left?, first_left}
use Rattle.meaning.specs.Endings.{placed_by, table_of, left_from, left_table, left_of, within?, stable?, respecting?, room?, same_cells, outcome_fits}
use Rattle.meaning.proofs.Booleans.{true-or-false, never, iff, and_left, and_right, and_intro, imp_use, imp_intro}
use Rattle.meaning.proofs.Numbers.{all-use, all-intro}
use Rattle.meaning.proofs.Pairs.{mutual-is}
use Rattle.meaning.proofs.Matchings.{stable-is, is-stable, respecting-is, is-respecting}
use Rattle.meaning.proofs.Endings.{same-cells}
use Rattle.rows.specs.Marks.{is_marked}
use Rattle.tables.specs.Decode.{within}
use Rattle.tables.proofs.Tests.{in_within, within_in}
use Rattle.ranks.specs.View.{n_of, m_of, wishes_of, posts_of, market_of, FullTables}
use Rattle.ranks.proofs.Tables.{ranged-tables}
use Rattle.reasons.specs.Rows.{RowsHold, row_pairs, standing_of, OrderRows}
use Rattle.reasons.specs.Reasons.{settled}
use Rattle.reasons.proofs.Settled.{down-first}
use Rattle.meaning.specs.declared.Ending.{Ending}

left-from-more : (K : Market) (lists : ℕ → List ℕ) (S : Struck) (d a : ℕ) → left_from K lists S (suc d) a ≡ left_from K lists S d a ++ (first_left K S (a + d) (lists (a + d)) ∷ [])
unfolding left_from
left-from-more K lists S zero a = rw add-zero
left-from-more K lists S (suc d) a =
    let z : suc a + d ≡ a + suc d = omega arith in
    ap (λ (l : List ℕ). first_left K S a (lists a) ∷ l) (left-from-more K lists S d (suc a) ∙ rw z)

module _ (h e : List ℕ) (ft : FullTables h e) (S : Struck) (rows : List ℕ) (hold : RowsHold (market_of h e) (wishes_of h e) S rows) where
  cells_same : (k : ℕ) → k ≤ n_of h → left_cells h e rows k ≡ left_from (market_of h e) (wishes_of h e) S k 1
  unfolding left_cells left_from
  cells_same zero l = refl
  cells_same (suc k) l =
      let z : 1 + k ≡ suc k = omega arith in
      ap₂ (λ (c : List ℕ) (x : ℕ). c ++ (x ∷ [])) (cells_same k (omega arith)) (cell-same h e ft S rows hold (suc k) (record { low = omega arith; high = l }))
      ∙ sym (left-from-more (market_of h e) (wishes_of h e) S k 1 ∙ rw z)

  pub left-same : left_cells h e rows (n_of h) ≡ left_table (market_of h e) (wishes_of h e) S
  unfolding left_table market_of
  left-same = cells_same (n_of h) (omega arith)

  -- ---- none, kind 1 and kind 2

  pub broken-same : (holds bars : List ℕ) (i j : ℕ) → In (n_of h) i → broken_in h e holds rows i j ≡ ((standing_of h holds bars).held i j & not (left? (market_of h e) S i j))
  unfolding broken_in ordered standing_of row_pairs ◌&◌
  broken-same holds bars i j ri = rw (in_within _ _ ri, open-same h e ft S rows hold i j ri)

  -- of a mutual pair, everything down to it is struck exactly if its place is before the first left
  down-same : (i j : ℕ) → mutual? (market_of h e) i j ≡ true → settled h e rows 0 j i ≡ down_struck (market_of h e) S i j
  unfolding settled market_of
  down-same i j t =
      let m = mutual-is (market_of h e) i j t in
      sym (and-goes _ (lt-ltb 0 (place (wishes_of h e i) j) m.ranks))
      ∙ sym (down-first (market_of h e) (ranged-tables h e ft) (wishes_of h e) (λ i j. refl) ft.trainee_short S rows hold i j m ∙ rw add-zero)

  room-same : (L : Table) (i j : ℕ) → (mutual? (market_of h e) i j & (settled h e rows 0 j i & ltb (placed (market_of h e) L j) (posts_of h j))) ≡ room? (market_of h e) S L i j
  unfolding room? market_of
  room-same L i j = go (true-or-false (mutual? (market_of h e) i j))
    where
      go : (mutual? (market_of h e) i j ≡ true) ⊎ (mutual? (market_of h e) i j ≡ false)
          → (mutual? (market_of h e) i j & (settled h e rows 0 j i & ltb (placed (market_of h e) L j) (posts_of h j))) ≡ (mutual? (market_of h e) i j & down_struck (market_of h e) S i j & ltb (placed (market_of h e) L j) (posts_of h j))
      go (inl t) = rw (down-same i j t)
      go (inr u) = sym (and-stops _ u) ∙ and-stops _ u

  pub kind-two-same : (i j : ℕ) → room_in h e rows i j ≡ (within? (market_of h e) (left_of (market_of h e) (wishes_of h e) S) & room? (market_of h e) S (left_of (market_of h e) (wishes_of h e) S) i j)
  unfolding room_in room_at
  kind-two-same i j = rw (left-same, room-same (left_of (market_of h e) (wishes_of h e) S) i j)

-- ---- placed

module _ (h e : List ℕ) (ft : FullTables h e) (holds bars : List ℕ) (orders : OrderRows h holds bars) where
  held-there : (i j : ℕ) → In (n_of h) i → In (m_of h) j → is_marked (get_or holds i 0) (j - 1) ≡ true → (standing_of h holds bars).held i j ≡ true
  unfolding standing_of row_pairs
  held-there i j ri rj t = and_intro (in_within _ _ ri) (and_intro (in_within _ _ rj) t)

  barred-there : (i j : ℕ) → In (n_of h) i → In (m_of h) j → is_marked (get_or bars i 0) (j - 1) ≡ true → (standing_of h holds bars).barred i j ≡ true
  unfolding standing_of row_pairs
  barred-there i j ri rj t = and_intro (in_within _ _ ri) (and_intro (in_within _ _ rj) t)

  -- a pair of an order row is of a trainee and a depot, and marked
  record PairMarked (rows : List ℕ) (i j : ℕ) : Type 0 where
    trainee : In (n_of h) i
    depot : In (m_of h) j
    marked : is_marked (get_or rows i 0) (j - 1) ≡ true

  pair-marked : (rows : List ℕ) (i j : ℕ) → row_pairs (n_of h) (m_of h) rows i j ≡ true → PairMarked rows i j
  unfolding row_pairs
  pair-marked rows i j t =
      let u = and_right (within (n_of h) i) _ t in
      record { trainee = within_in _ _ (and_left _ _ t); depot = within_in _ _ (and_left _ _ u); marked = and_right (within (m_of h) j) _ u }

  held_back : (i j : ℕ) → (standing_of h holds bars).held i j ≡ true → PairMarked holds i j
  unfolding standing_of
  held_back i j t = pair-marked holds i j t

  barred-back : (i j : ℕ) → (standing_of h holds bars).barred i j ≡ true → PairMarked bars i j
  unfolding standing_of
  barred-back i j t = pair-marked bars i j t

  module _ (os : List Order) (stands : standing_of h holds bars ≡ standing os) (M : Table) where
    rows-obeyed : Respecting (market_of h e) (standing os) M → (i : ℕ) → In (n_of h) i → obeys_rows (get_or holds i 0) (get_or bars i 0) (M i) ≡ true
    unfolding obeys_rows market_of
    rows-obeyed ok i ri = all-intro 64 _ (λ j r. and_intro
        (imp_intro _ _ (λ t.
        let rj : In (m_of h) j = record { low = r.low; high = omega (arith, r.low, orders.holds_inside i ri (j - 1) (omega (arith, r.low, r.high)) t) } in
        eq-eqb j (M i) (sym (ok.holds i j (ap (λ (O : Standing). O.held i j) (sym stands) ∙ held-there i j ri rj t)))))
        (imp_intro _ _ (λ t. ap not (ne_eqb j (M i) (λ q.
        let m = ok.stable.matching.pairs i ri (omega (arith, r.low)) in
        let rj : In (m_of h) j = subst (In (m_of h)) (sym q) ((ranged-tables h e ft).depot_in_range i (M i) m.ranks) in
        ok.avoids i j (ap (λ (O : Standing). O.barred i j) (sym stands) ∙ barred-there i j ri rj t) (sym q))))))

    obeys-holds : ((i : ℕ) → In (n_of h) i → obeys_rows (get_or holds i 0) (get_or bars i 0) (M i) ≡ true) → (i j : ℕ) → (standing os).held i j ≡ true → M i ≡ j
    unfolding obeys_rows
    obeys-holds f i j t =
        let p = held_back i j (ap (λ (O : Standing). O.held i j) stands ∙ t) in
        let o = all-use 64 _ (f i p.trainee) j (record { low = p.depot.low; high = omega (arith, p.depot.high, ft.few_depots) }) in
        sym (eqb-true j (M i) (imp_use _ _ (and_left _ _ o) p.marked))

    obeys-avoids : ((i : ℕ) → In (n_of h) i → obeys_rows (get_or holds i 0) (get_or bars i 0) (M i) ≡ true) → (i j : ℕ) → (standing os).barred i j ≡ true → M i ≡ j → ⊥
    unfolding obeys_rows
    obeys-avoids f i j t q =
        let p = barred-back i j (ap (λ (O : Standing). O.barred i j) stands ∙ t) in
        let o = all-use 64 _ (f i p.trainee) j (record { low = p.depot.low; high = omega (arith, p.depot.high, ft.few_depots) }) in
        never (eq-eqb j (M i) (sym q)) (not-true _ (imp_use _ _ (and_right (imp (is_marked (get_or holds i 0) (j - 1)) (eqb j (M i))) _ o) p.marked))

    pub respecting-same : (stable? (market_of h e) M & all (n_of h) (λ i. obeys_rows (get_or holds i 0) (get_or bars i 0) (M i))) ≡ respecting? (market_of h e) os M
    respecting-same = iff there back
      where
        there : (stable? (market_of h e) M & all (n_of h) (λ i. obeys_rows (get_or holds i 0) (get_or bars i 0) (M i))) ≡ true → respecting? (market_of h e) os M ≡ true
        there t =
            let f = all-use (n_of h) _ (and_right (stable? (market_of h e) M) _ t) in
            is-respecting (market_of h e) (ranged-tables h e ft) os M
            (record { stable = stable-is (market_of h e) (ranged-tables h e ft) M (and_left _ _ t); holds = obeys-holds f; avoids = obeys-avoids f })

        back : respecting? (market_of h e) os M ≡ true → (stable? (market_of h e) M & all (n_of h) (λ i. obeys_rows (get_or holds i 0) (get_or bars i 0) (M i))) ≡ true
        back t =
            let ok = respecting-is (market_of h e) (ranged-tables h e ft) os M t in
            and_intro (is-stable (market_of h e) (ranged-tables h e ft) M ok.stable) (all-intro (n_of h) _ (rows-obeyed ok))

  module _ (os : List Order) (stands : standing_of h holds bars ≡ standing os) (S : Struck) (rows : List ℕ) (hold : RowsHold (market_of h e) (wishes_of h e) S rows) where
    placed_same : (table : List ℕ) → placed_in h e holds bars rows table ≡ outcome_fits (market_of h e) (wishes_of h e) (standing os) os S (placed_by (take (n_of h) table))
    unfolding placed_in table_fits all_obey outcome_fits
    placed_same table = rw (left-same h e ft S rows hold) (go (true-or-false (same_cells (take (n_of h) table) L)))
      where
        L : List ℕ
        L = left_table (market_of h e) (wishes_of h e) S

        go : (same_cells (take (n_of h) table) L ≡ true) ⊎ (same_cells (take (n_of h) table) L ≡ false)
            → (same_cells (take (n_of h) table) L & (stable? (market_of h e) (table_of L) & all (n_of h) (λ i. obeys_rows (get_or holds i 0) (get_or bars i 0) (table_of L i))))
            ≡ (same_cells (take (n_of h) table) L & respecting? (market_of h e) os (table_of (take (n_of h) table)))
        go (inl t) = ap (λ (b : Bool). same_cells (take (n_of h) table) L & b)
            (respecting-same os stands (table_of L) ∙ ap (λ (l : List ℕ). respecting? (market_of h e) os (table_of l)) (sym (same-cells (take (n_of h) table) L t)))
        go (inr u) = sym (and-stops _ u) ∙ and-stops _ u

    -- the trainee whom an ending names is one; a table names none
    pub ending-same : (ending : Ending) (table : List ℕ) → NamesTrainee (n_of h) ending
        → ends_in h e holds bars rows ending table ≡ outcome_fits (market_of h e) (wishes_of h e) (standing os) os S (outcome_in (n_of h) ending table)
    unfolding ends_in outcome_in outcome_fits
    ending-same Ending.Placed table r = placed_same table
    ending-same (Ending.NoneHeld i j) table r = broken-same h e ft S rows hold holds bars i j r ∙ ap (λ (O : Standing). O.held i j & not (left? (market_of h e) S i j)) stands
    ending-same (Ending.NoneRoom i j) table r = kind-two-same h e ft S rows hold i j
