-- No strike takes a pair of a respecting matching; the left table is above each such matching; none of kind 1 is true (Lemmas S and A).
-- Assumes nothing.

-- ---- a strike takes no pair of a respecting matching

-- nothing that is struck is in M
use Prim.Native.Nat.{ℕ, ◌≤◌, ◌<◌}
use mathlib.Core.Path.{◌≡◌, refl, sym, ap, ◌∙◌, subst}
use mathlib.Core.Logic.{◌⊎◌, inl, inr, ⊎_elim}
use mathlib.Core.Bool.{true, false, not}
use native.Mathlib.Omega.{arith}
use native.Mathlib.Nat.{lt_irrefl}
use lib.Dec.{eqb}
use borrow.Author.Tests.{leb-true, eqb-false, eq-eqb, not-true}
use Rattle.meaning.specs.Numbers.{In, ◌&◌, count}
use Rattle.meaning.specs.Market.{Market, Standing, Lawful, Table, Mutual, mutual?, placed, Gains, free, better, worse, Respecting}
use Rattle.meaning.specs.Strikes.{Struck, above_struck, down_struck, ahead, fits, allowed, Left}
use Rattle.meaning.specs.Endings.{NoneHeld}
use Rattle.meaning.proofs.Booleans.{true-or-false, never, and_left, and_right, and_intro}
use Rattle.meaning.proofs.Numbers.{order, same, count_less, Find, found, none_found, find}
use Rattle.meaning.proofs.Pairs.{mutual-is, is-mutual, ahead-pair, ahead-less, above-use, down-use, above-intro}
use Rattle.meaning.specs.declared.Reason.{Reason}
use Rattle.meaning.specs.declared.Reason.TheVariants.{Barred, HeldElsewhere, PostsGone, Passed}

abbrev pub Clear : Market → Struck → Table → Type 0
Clear K S M = (i j : ℕ) → In K.n i → S i j ≡ true → M i ≡ j → ⊥

module _ (K : Market) (O : Standing) (lawful : Lawful K O) (S : Struck) (M : Table) (ok : Respecting K O M) (clear : Clear K S M) where
  -- one who has everything above_struck j struck, and is not at j, gains by j
  pub gains-above : (k j : ℕ) → Mutual K k j → above_struck K S k j ≡ true → (M k ≡ j → ⊥) → Gains K M k j
  gains-above k j p h off = go (same (M k) 0)
    where
      rk : In K.n k
      rk = lawful.ranged.trainee_in_range k j p.ranks

      go : (M k ≡ 0) ⊎ (M k ≡ 0 → ⊥) → Gains K M k j
      go (inl e) = free e
      go (inr ne) = ⊎_elim
          (λ (l : K.trainee_rank k (M k) ≤ K.trainee_rank k j). absurd (⊎_elim
          (λ (e : K.trainee_rank k (M k) ≡ K.trainee_rank k j). off (lawful.strict.trainee_strict k (M k) j pm.ranks e))
          (λ (l' : K.trainee_rank k (M k) < K.trainee_rank k j). clear k (M k) rk (above-use K lawful.ranged S k j (M k) h pm l') refl)
          (split l)))
          (λ (l : K.trainee_rank k j < K.trainee_rank k (M k)). better l)
          (order (K.trainee_rank k (M k)) (K.trainee_rank k j))
        where
          pm : Mutual K k (M k)
          pm = ok.stable.matching.pairs k rk (omega arith)

          split : {a b : ℕ} → a ≤ b → (a ≡ b) ⊎ (a < b)
          split {a} {b} l = ⊎_elim (λ q. inl q) (λ nq. inr (omega arith)) (same a b)

  gone-sound : (i j : ℕ) → Mutual K i j → M i ≡ j → K.posts j ≤ count K.n (λ k. ahead K i j k & above_struck K S k j) → ⊥
  unfolding placed
  gone-sound i j p e h = go (find K.n (λ k. (ahead K i j k & above_struck K S k j) & not (eqb (M k) j)))
    where
      ri : In K.n i
      ri = lawful.ranged.trainee_in_range i j p.ranks

      not-self : (ahead K i j i & above_struck K S i j) ≡ false
      not-self = ⊎_elim (λ t. absurd (lt_irrefl _ (ahead-less K i j i (and_left _ _ t)))) (λ u. u) (true-or-false _)

      go : Find K.n (λ k. (ahead K i j k & above_struck K S k j) & not (eqb (M k) j)) → ⊥
      go (found k r t) =
          let a = and_left _ _ (and_left _ _ t) in
          let b = and_right (ahead K i j k) _ (and_left _ _ t) in
          let off = eqb-false (M k) j (not-true _ (and_right (ahead K i j k & above_struck K S k j) _ t)) in
          ok.stable.unblocked k j
          (record {
            pair = ahead-pair K i j k a;
            gains = gains-above k j (ahead-pair K i j k a) b off;
            takes = worse i ri e (ahead-less K i j k a);
          })
      go (none_found w) =
          let less = count_less K.n (λ k. ahead K i j k & above_struck K S k j) (λ k. eqb (M k) j)
          (λ k r t. ⊎_elim (λ q. q) (λ u. absurd (never (and_intro t (ap not u)) (w k r))) (true-or-false (eqb (M k) j)))
          i ri not-self (eq-eqb (M i) j e)
          in
          omega (arith, less, h, ok.stable.matching.within j (lawful.ranged.depot_in_range i j p.ranks))

  passed-sound : (i j k : ℕ) → In K.n i → M i ≡ j → ahead K i j k ≡ true → down_struck K S k j ≡ true → ⊥
  passed-sound i j k ri e a d =
      let pk = ahead-pair K i j k a in
      ok.stable.unblocked k j
      (record {
        pair = pk;
        gains = gains-above k j pk
            (above-intro K lawful.ranged S k j (λ j' p l. down-use K lawful.ranged S k j j' d p (omega arith)))
            (clear k j (lawful.ranged.trainee_in_range k j pk.ranks) (down-use K lawful.ranged S k j j d pk (omega arith)));
        takes = worse i ri e (ahead-less K i j k a);
      })

  fits-sound : (i j : ℕ) (r : Reason) → Mutual K i j → fits K O S i j r ≡ true → M i ≡ j → ⊥
  unfolding fits
  fits-sound i j Barred p h e = ok.avoids i j h e
  fits-sound i j (HeldElsewhere j') p h e =
      eqb-false j' j (not-true _ (and_right (O.held i j') _ h)) (sym (ok.holds i j' (and_left _ _ h)) ∙ e)
  fits-sound i j PostsGone p h e = gone-sound i j p e (leb-true _ _ h)
  fits-sound i j (Passed k) p h e =
      passed-sound i j k (lawful.ranged.trainee_in_range i j p.ranks) e (and_left _ _ h) (and_right (ahead K i j k) _ h)

  -- Lemma S: what may be struck is in no respecting matching
  pub strike-sound : (i j : ℕ) (r : Reason) → allowed K O S i j r ≡ true → M i ≡ j → ⊥
  unfolding allowed
  strike-sound i j r h e =
      fits-sound i j r (mutual-is K i j (and_left _ _ h)) (and_right (not (S i j)) _ (and_right (mutual? K i j) _ h)) e

  -- Lemma A: each trainee has the same in M as in the left table, or a lower one, or none
  module _ (L : Table) (left : Left K S L) where
    open_in : (i : ℕ) → In K.n i → 0 < M i → S i (M i) ≡ false
    open_in i r l = ⊎_elim (λ t. absurd (clear i (M i) r t refl)) (λ u. u) (true-or-false (S i (M i)))

    pub left-sits : (i : ℕ) → In K.n i → 0 < M i → 0 < L i
    left-sits i r l = left.sits i (M i) (ok.stable.matching.pairs i r l) (open_in i r l)

    pub left-best : (i : ℕ) → In K.n i → 0 < M i → K.trainee_rank i (L i) ≤ K.trainee_rank i (M i)
    left-best i r l = left.best i (M i) (ok.stable.matching.pairs i r l) (open_in i r l)

  -- none of kind 1 is true
  pub none-held-sound : (i j : ℕ) → NoneHeld K O S i j → ⊥
  none-held-sound i j w = ⊎_elim
      (λ t. clear i j (lawful.orders.held_trainee i j w.order) t e)
      (λ u. never (is-mutual K i j (subst (λ x. Mutual K i x) e
      (ok.stable.matching.pairs i (lawful.orders.held_trainee i j w.order) (rw e (lawful.orders.held_depot i j w.order).low)))) u)
      w.broken
    where
      e : M i ≡ j
      e = ok.holds i j w.order
