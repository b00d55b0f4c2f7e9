-- The counting lemma: where the left table exceeds no posts, each depot has as many trainees in it as in any respecting matching (Lemma K).
-- Assumes nothing.

-- the trainees counted by depot are the trainees with a depot
use Prim.Native.Nat.{ℕ, ◌≤◌, ◌<◌}
use mathlib.Core.Path.{◌≡◌, sym, ap, ◌∙◌}
use mathlib.Core.Logic.{⊎_elim}
use mathlib.Core.Bool.{not}
use native.Mathlib.Omega.{arith}
use lib.Dec.{ltb, eqb}
use borrow.Author.Tests.{ltb-true, lt-ltb, le-ltb, eqb-true, eqb-false, eq-eqb, ne_eqb, not-true}
use Rattle.meaning.specs.Numbers.{In, ◌&◌, bit, sum, count}
use Rattle.meaning.specs.Market.{Market, Standing, Ranged, Lawful, Table, Mutual, placed, Gains, free, better, spare, Respecting}
use Rattle.meaning.specs.Strikes.{Struck, Left}
use Rattle.meaning.specs.Endings.{NoneRoom}
use Rattle.meaning.proofs.Booleans.{true-or-false, never, and_left, and_right, and_intro}
use Rattle.meaning.proofs.Numbers.{order, same, sum-cong, sum_less, sum-swap, sum-out, sum-in, count-mono, count_less, Find, found, none_found, find}
use Rattle.meaning.proofs.Pairs.{down-use, above-intro}
use Rattle.meaning.proofs.Sound.{Clear, gains-above, left-sits, left-best}

pub seats : (K : Market) (M : Table) → ((k : ℕ) → In K.n k → M k ≤ K.m)
    → sum K.m (placed K M) ≡ count K.n (λ k. ltb 0 (M k))
unfolding placed count
seats K M h =
    sym (sum-swap K.n K.m (λ k j. bit (eqb (M k) j)))
    ∙ sum-cong K.n (λ k. sum K.m (λ j. bit (eqb (M k) j))) (λ k. bit (ltb 0 (M k))) each
  where
    each : (k : ℕ) → In K.n k → sum K.m (λ j. bit (eqb (M k) j)) ≡ bit (ltb 0 (M k))
    each k r = ⊎_elim
        (λ (z : M k ≤ 0). sum-out K.m (M k) (λ (i : In K.m (M k)). omega arith) ∙ ap bit (sym (le-ltb 0 (M k) z)))
        (λ (l : 0 < M k). sum-in K.m (M k) (record { low = l; high = h k r }) ∙ ap bit (sym (lt-ltb 0 (M k) l)))
        (order (M k) 0)

pub table-within : (K : Market) → Ranged K → (M : Table) → ((i : ℕ) → In K.n i → 0 < M i → Mutual K i (M i))
    → (k : ℕ) → In K.n k → M k ≤ K.m
table-within K ranged M pairs k r = ⊎_elim
    (λ (z : M k ≤ 0). omega arith)
    (λ (l : 0 < M k). (ranged.depot_in_range k (M k) (pairs k r l).ranks).high)
    (order (M k) 0)

module _ (K : Market) (O : Standing) (lawful : Lawful K O) (S : Struck) (M : Table) (ok : Respecting K O M) (clear : Clear K S M) (L : Table) (left : Left K S L) where
  -- who is at j in L and HeldElsewhere in M would gain by j
  pub gains-left : (k j : ℕ) → In K.n k → 0 < L k → L k ≡ j → (M k ≡ j → ⊥) → Gains K M k j
  gains-left k j r s e off = ⊎_elim
      (λ (z : M k ≤ 0). free (omega arith))
      (λ (l : 0 < M k).
      let b : K.trainee_rank k j ≤ K.trainee_rank k (M k) = rw e at (left-best K O lawful S M ok clear L left k r l) in
      let ne : K.trainee_rank k (M k) ≡ K.trainee_rank k j → ⊥ =
      λ q. off (lawful.strict.trainee_strict k (M k) j (ok.stable.matching.pairs k r l).ranks q) in
      better (omega arith))
      (order (M k) 0)

  pub no-fewer : ((j : ℕ) → In K.m j → placed K L j ≤ K.posts j) → (j : ℕ) → In K.m j → placed K L j ≤ placed K M j
  unfolding placed
  no-fewer within j rj = go (find K.n (λ k. eqb (L k) j & not (eqb (M k) j)))
    where
      go : Find K.n (λ k. eqb (L k) j & not (eqb (M k) j)) → placed K L j ≤ placed K M j
      go (none_found w) = count-mono K.n (λ k. eqb (L k) j) (λ k. eqb (M k) j)
          (λ k r t. ⊎_elim (λ q. q) (λ u. absurd (never (and_intro t (ap not u)) (w k r))) (true-or-false (eqb (M k) j)))
      go (found k r t) =
          let e = eqb-true (L k) j (and_left _ _ t) in
          let off = eqb-false (M k) j (not-true _ (and_right (eqb (L k) j) _ t)) in
          let s : 0 < L k = rw e rj.low in
          ⊎_elim
          (λ (fine : placed K L j ≤ placed K M j). fine)
          (λ (fewer : placed K M j < placed K L j). absurd (ok.stable.unblocked k j
          (record {
            pair = rw e at (left.pairs k r s);
            gains = gains-left k j r s e off;
            takes = spare (omega (arith, within j rj));
          })))
          (order (placed K L j) (placed K M j))

  -- Lemma K: each depot has as many trainees in L as in M
  pub same_number : ((j : ℕ) → In K.m j → placed K L j ≤ K.posts j) → (j : ℕ) → In K.m j → placed K L j ≡ placed K M j
  same_number within j r = ⊎_elim
      (λ (l : placed K M j ≤ placed K L j). omega (arith, no-fewer within j r))
      (λ (l : placed K L j < placed K M j). absurd
      (omega (arith, sum_less K.m (placed K L) (placed K M) (no-fewer within) j r l, seats-in-L, seats-in-M, more-seated)))
      (order (placed K M j) (placed K L j))
    where
      seats-in-L : sum K.m (placed K L) ≡ count K.n (λ k. ltb 0 (L k))
      seats-in-L = seats K L (table-within K lawful.ranged L left.pairs)

      seats-in-M : sum K.m (placed K M) ≡ count K.n (λ k. ltb 0 (M k))
      seats-in-M = seats K M (table-within K lawful.ranged M ok.stable.matching.pairs)

      more-seated : count K.n (λ k. ltb 0 (M k)) ≤ count K.n (λ k. ltb 0 (L k))
      more-seated = count-mono K.n _ _ (λ k i t. lt-ltb _ _ (left-sits K O lawful S M ok clear L left k i (ltb-true _ _ t)))

  -- Lemma K: and a trainee has a depot in L exactly if in M
  pub same-seated : ((j : ℕ) → In K.m j → placed K L j ≤ K.posts j) → (i : ℕ) → In K.n i → 0 < L i → 0 < M i
  same-seated within i r s = ⊎_elim
      (λ (z : M i ≤ 0). absurd (omega (
        arith,
        count_less K.n (λ k. ltb 0 (M k)) (λ k. ltb 0 (L k))
            (λ k i' t. lt-ltb _ _ (left-sits K O lawful S M ok clear L left k i' (ltb-true _ _ t))) i r (le-ltb _ _ z) (lt-ltb _ _ s),
        seats K L (table-within K lawful.ranged L left.pairs),
        seats K M (table-within K lawful.ranged M ok.stable.matching.pairs),
        sum-cong K.m (placed K L) (placed K M) (same_number within),
      )))
      (λ l. l)
      (order (M i) 0)

  -- a depot with open posts has the same trainees in both
  pub same-trainees : ((j : ℕ) → In K.m j → placed K L j ≤ K.posts j) → (j : ℕ) → In K.m j → placed K L j < K.posts j
      → (k : ℕ) → In K.n k → L k ≡ j → M k ≡ j
  same-trainees within j r l k i e = ⊎_elim
      (λ q. q)
      (λ nq.
      let s : 0 < L k = rw e r.low in
      absurd (ok.stable.unblocked k j
      (record {
        pair = rw e at (left.pairs k i s);
        gains = gains-left k j i s e nq;
        takes = spare (omega (arith, same_number within j r));
      })))
      (same (M k) j)

  pub same-trainees-back : ((j : ℕ) → In K.m j → placed K L j ≤ K.posts j) → (j : ℕ) → In K.m j → placed K L j < K.posts j
      → (k : ℕ) → In K.n k → M k ≡ j → L k ≡ j
  unfolding placed
  same-trainees-back within j r l k i e = ⊎_elim
      (λ q. q)
      (λ nq. absurd (omega (
        arith,
        same_number within j r,
        count_less K.n (λ k. eqb (L k) j) (λ k. eqb (M k) j)
            (λ k i t. eq-eqb _ _ (same-trainees within j r l k i (eqb-true _ _ t))) k i (ne_eqb _ _ nq) (eq-eqb _ _ e),
      )))
      (same (L k) j)

  -- none of kind 2 is true
  pub none-room-sound : (i j : ℕ) → NoneRoom K S L i j → ⊥
  none-room-sound i j w = ok.stable.unblocked i j
      (record { pair = w.pair; gains = gains; takes = spare (omega (arith, w.room, same_number w.within j (lawful.ranged.depot_in_range i j w.pair.ranks))) })
    where
      gains : Gains K M i j
      gains =
          gains-above K O lawful S M ok clear i j w.pair
          (above-intro K lawful.ranged S i j (λ j' p l. down-use K lawful.ranged S i j j' w.down p (omega arith)))
          (clear i j (lawful.ranged.trainee_in_range i j w.pair.ranks) (down-use K lawful.ranged S i j j w.down w.pair (omega arith)))
