-- Stable tables are the stable matchings of document 000: a table is stable exactly if its set of pairs is, and every matching of pairs is a table's.
-- Assumes nothing.
use Prim.Native.Nat.{ℕ, ◌≤◌, ◌<◌}
use mathlib.Core.Path.{◌≡◌, refl, sym, ap, ◌∙◌, subst}
use mathlib.Core.Logic.{◌⊎◌, inl, inr, ⊎_elim}
use mathlib.Core.Bool.{true, false, false≢true}
use mathlib.Core.Option.{Option}
use native.Mathlib.Omega.{arith}
use native.Mathlib.Nat.{le_trans, lt_irrefl}
use lib.Dec.{ltb, leb, eqb}
use borrow.Author.Tests.{ltb-true, lt-ltb, leb-true, le-leb, eqb-true, eq-eqb}
use Rattle.meaning.specs.Numbers.{In, ◌&◌, smallest}
use Rattle.meaning.specs.Market.{Market, Ranged, Table, Mutual, placed, Gains, free, better, Takes, spare, worse, Stable}
use Rattle.meaning.specs.Paper.{PairSet, Acceptable, depots_of, trainees_of, PaperMatching, PaperStable, pairs_of, or_none, table_from}
use Rattle.meaning.proofs.Booleans.{never, is_false, iff, and_left, and_right, and_intro}
use Rattle.meaning.proofs.Numbers.{order, same, count-mono, count_less, count-cong, count-one, count-two, count_none, Smallest, least, no-least, smallest-is}

-- ---- the pairs of a table

module _ (K : Market) (M : Table) where
  pair-in : (i j : ℕ) → pairs_of K M i j ≡ true → In K.n i
  unfolding pairs_of
  pair-in i j t =
      let a = and_left _ _ t in
      record { low = leb-true _ _ (and_left _ _ a); high = leb-true _ _ (and_right (leb 1 i) _ a) }

  pair-some : (i j : ℕ) → pairs_of K M i j ≡ true → 0 < j
  unfolding pairs_of
  pair-some i j t = ltb-true _ _ (and_left _ _ (and_right (leb 1 i & leb i K.n) _ t))

  pair_is : (i j : ℕ) → pairs_of K M i j ≡ true → M i ≡ j
  unfolding pairs_of
  pair_is i j t = eqb-true _ _ (and_right (ltb 0 j) _ (and_right (leb 1 i & leb i K.n) _ t))

  is-pair : (i j : ℕ) → In K.n i → 0 < j → M i ≡ j → pairs_of K M i j ≡ true
  unfolding pairs_of
  is-pair i j r l e = and_intro (and_intro (le-leb _ _ r.low) (le-leb _ _ r.high)) (and_intro (lt-ltb _ _ l) (eq-eqb _ _ e))

  -- a depot's trainees are counted alike
  same_count : (j : ℕ) → 0 < j → trainees_of K (pairs_of K M) j ≡ placed K M j
  unfolding trainees_of placed
  same_count j l = count-cong K.n _ _ (λ i r. iff (λ t. eq-eqb _ _ (pair_is i j t)) (λ t. is-pair i j r l (eqb-true _ _ t)))

  -- who has no depot is given none, and who has one is given at most that
  none-given : (i : ℕ) → M i ≡ 0 → depots_of K (pairs_of K M) i ≡ 0
  unfolding depots_of
  none-given i e = count_none K.m _ (λ j r. is_false _ (λ t. omega (arith, pair-some i j t, pair_is i j t)))

  once-given : (i : ℕ) → depots_of K (pairs_of K M) i ≤ 1
  unfolding depots_of
  once-given i = le_trans (count-mono K.m _ (λ j. eqb (M i) j) (λ j r t. eq-eqb _ _ (pair_is i j t))) (count-one K.m (M i))

  some-given : (i : ℕ) → In K.n i → In K.m (M i) → 0 < depots_of K (pairs_of K M) i
  unfolding depots_of
  some-given i r r' = omega (arith, count_less K.m (λ _. false) (pairs_of K M i) (λ k _ t. absurd (false≢true t)) (M i) r' refl (is-pair i (M i) r r'.low refl))

-- ---- a table is stable exactly if its pairs are

module _ (K : Market) (ranged : Ranged K) (M : Table) where
  acceptable : (i j : ℕ) → Mutual K i j → Acceptable K i j
  acceptable i j p = record {
    trainee = ranged.trainee_in_range i j p.ranks;
    depot = ranged.depot_in_range i j p.ranks;
    on_depots_list = p.ranked;
    on_trainees_list = p.ranks;
  }

  pub stable-paper : Stable K M → PaperStable K (pairs_of K M)
  stable-paper s = record {
    matching = record {
      subset = λ i j t. acceptable i j (subst (Mutual K i) (pair_is K M i j t) (s.matching.pairs i (pair-in K M i j t) (rw (pair_is K M i j t) (pair-some K M i j t))));
      once = λ i r. once-given K M i;
      capacity = λ j r. rw (same_count K M j r.low) (s.matching.within j r);
    };
    unblocked = λ i j b. s.unblocked i j
        (record {
          pair = record { ranks = b.acceptable.on_trainees_list; ranked = b.acceptable.on_depots_list };
          gains = gains i j b.acceptable b.trainee_wants;
          takes = takes i j b.acceptable b.depot_wants;
        });
  }
    where
      gains : (i j : ℕ) → Acceptable K i j
          → (depots_of K (pairs_of K M) i ≡ 0) ⊎ ((k : ℕ) × In K.m k × (pairs_of K M i k ≡ true) × (K.trainee_rank i j < K.trainee_rank i k)) → Gains K M i j
      gains i j a (inl z) = ⊎_elim
          (λ (l : M i ≤ 0). free (omega arith))
          (λ (l : 0 < M i). absurd (omega (arith, z, some-given K M i a.trainee (ranged.depot_in_range i (M i) (s.matching.pairs i a.trainee l).ranks))))
          (order (M i) 0)
      gains i j a (inr w) = better (rw (pair_is K M i w.0 w.2) w.3)

      takes : (i j : ℕ) → Acceptable K i j
          → (trainees_of K (pairs_of K M) j < K.posts j) ⊎ ((l : ℕ) × In K.n l × (pairs_of K M l j ≡ true) × (K.depot_rank j i < K.depot_rank j l)) → Takes K M i j
      takes i j a (inl l) = spare (rw (same_count K M j a.depot.low) at l)
      takes i j a (inr w) = worse w.0 w.1 (pair_is K M w.0 j w.2) w.3

  pub paper-stable : PaperStable K (pairs_of K M) → Stable K M
  paper-stable s = record {
    matching = record {
      pairs = λ i r l. let a = s.matching.subset i (M i) (is-pair K M i (M i) r l refl) in record { ranks = a.on_trainees_list; ranked = a.on_depots_list };
      within = λ j r. rw (same_count K M j r.low) at (s.matching.capacity j r);
    };
    unblocked = λ i j b.
        let a = acceptable i j b.pair in
        s.unblocked i j
        (record { acceptable = a; outside = outside i j a b.gains; trainee_wants = wants i j a b.gains; depot_wants = takes i j a b.takes });
  }
    where
      outside : (i j : ℕ) → Acceptable K i j → Gains K M i j → pairs_of K M i j ≡ false
      outside i j a (free e) = is_false _ (λ t. omega (arith, pair_is K M i j t, a.depot.low))
      outside i j a (better l) = is_false _ (λ t. lt_irrefl _ (rw (pair_is K M i j t) at l))

      wants : (i j : ℕ) → Acceptable K i j → Gains K M i j
          → (depots_of K (pairs_of K M) i ≡ 0) ⊎ ((k : ℕ) × In K.m k × (pairs_of K M i k ≡ true) × (K.trainee_rank i j < K.trainee_rank i k))
      wants i j a (free e) = inl (none-given K M i e)
      wants i j a (better l) =
          let r = ranged.depot_in_range i (M i) (omega arith) in
          inr (M i, r, is-pair K M i (M i) a.trainee r.low refl, l)

      takes : (i j : ℕ) → Acceptable K i j → Takes K M i j
          → (trainees_of K (pairs_of K M) j < K.posts j) ⊎ ((l : ℕ) × In K.n l × (pairs_of K M l j ≡ true) × (K.depot_rank j i < K.depot_rank j l))
      takes i j a (spare l) = inl (rw (same_count K M j a.depot.low) l)
      takes i j a (worse k r e l) = inr (k, r, is-pair K M k j r a.depot.low e, l)

-- ---- every matching of pairs is a table's

module _ (K : Market) (X : PairSet) (matching : PaperMatching K X) where
  -- two depots of one trainee are one
  only_one : (i j j' : ℕ) → X i j ≡ true → X i j' ≡ true → j ≡ j'
  unfolding depots_of
  only_one i j j' t t' = ⊎_elim
      (λ e. e)
      (λ ne. absurd (omega (
        arith,
        matching.once i (matching.subset i j t).trainee,
        count-two K.m (X i) j j' (matching.subset i j t).depot (matching.subset i j' t').depot t t' ne,
      )))
      (same j j')

  pub table-of-pairs : (i j : ℕ) → pairs_of K (table_from K X) i j ≡ X i j
  unfolding table_from or_none
  table-of-pairs i j = iff (there (smallest K.m (X i)) refl (smallest-is K.m (X i))) (back (smallest K.m (X i)) refl (smallest-is K.m (X i)))
    where
      there : (o : Option ℕ) → smallest K.m (X i) ≡ o → Smallest K.m (X i) o → pairs_of K (table_from K X) i j ≡ true → X i j ≡ true
      there _ e (least k r t h) p = let q : k ≡ j = sym (ap or_none e) ∙ pair_is K (table_from K X) i j p in subst (λ y. X i y ≡ true) q t
      there _ e (no-least h) p = let q : 0 ≡ j = sym (ap or_none e) ∙ pair_is K (table_from K X) i j p in absurd (omega (arith, q, pair-some K (table_from K X) i j p))

      back : (o : Option ℕ) → smallest K.m (X i) ≡ o → Smallest K.m (X i) o → X i j ≡ true → pairs_of K (table_from K X) i j ≡ true
      back _ e (least k r t h) p =
          is-pair K (table_from K X) i j (matching.subset i j p).trainee (matching.subset i j p).depot.low (ap or_none e ∙ only_one i k j t p)
      back _ e (no-least h) p = absurd (never p (h j (matching.subset i j p).depot))
