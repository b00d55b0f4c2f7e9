-- When nothing may be struck any more and each held pair is left, the left table is respecting or a pair of kind 2 is there.
-- Assumes nothing.
use Prim.Native.Nat.{ℕ, ◌≤◌, ◌<◌}
use mathlib.Core.Path.{◌≡◌, sym, ap}
use mathlib.Core.Logic.{◌⊎◌, inl, inr, ⊎_elim}
use mathlib.Core.Bool.{true, false, not}
use native.Mathlib.Omega.{arith}
use lib.Dec.{ltb, eqb}
use borrow.Author.Tests.{ltb-true, lt-ltb, le-leb, eqb-true, ne_eqb}
use Rattle.meaning.specs.Numbers.{In, ◌&◌, count}
use Rattle.meaning.specs.Market.{Market, Standing, Lawful, Table, Mutual, mutual?, placed, Gains, free, better, Takes, spare, worse, Blocks, Respecting}
use Rattle.meaning.specs.Strikes.{Struck, above_struck, down_struck, ahead, fits, allowed, Exhausted, Left}
use Rattle.meaning.specs.Endings.{NoneRoom}
use Rattle.meaning.proofs.Booleans.{true-or-false, never, and_left, and_right, and_intro}
use Rattle.meaning.proofs.Numbers.{order, same, count-but-one, count_none, FindPair, found-pair, no-pair, find-pair, Best, best, empty, greatest}
use Rattle.meaning.proofs.Pairs.{mutual-is, is-mutual, ahead-intro, above-intro, down-intro}
use Rattle.meaning.specs.declared.Reason.{Reason}
use Rattle.meaning.specs.declared.Reason.TheVariants.{Barred, HeldElsewhere, PostsGone, Passed}

pub data Fitting (K : Market) (O : Standing) (S : Struck) (L : Table) : Type 0 where
  respecting : Respecting K O L → Fitting K O S L
  room : (i j : ℕ) → NoneRoom K S L i j → Fitting K O S L

pub record HeldOpen (K : Market) (O : Standing) (S : Struck) : Type 0 where
  pub pair : (i j : ℕ) → O.held i j ≡ true → Mutual K i j
  pub unstruck : (i j : ℕ) → O.held i j ≡ true → S i j ≡ false

module _ (K : Market) (O : Standing) (lawful : Lawful K O) (S : Struck) (done : Exhausted K O S) (L : Table) (left : Left K S L) where
  refuse : (i j : ℕ) (r : Reason) → Mutual K i j → S i j ≡ false → fits K O S i j r ≡ true → ⊥
  unfolding allowed Exhausted
  refuse i j r p u f = never (and_intro (is-mutual K i j p) (and_intro (ap not u) f)) (done i j r)

  -- what a trainee ranks above_struck their place in L is struck
  above-left : (k j : ℕ) → Mutual K k j → (L k ≡ 0) ⊎ (K.trainee_rank k j < K.trainee_rank k (L k)) → S k j ≡ true
  above-left k j p g = ⊎_elim
      (λ t. t)
      (λ u. absurd (⊎_elim (λ (z : L k ≡ 0). omega (arith, left.sits k j p u)) (λ (l : K.trainee_rank k j < K.trainee_rank k (L k)). omega (arith, left.best k j p u)) g))
      (true-or-false (S k j))

  gone-fits : (i j : ℕ) → K.posts j ≤ count K.n (λ k. ahead K i j k & above_struck K S k j) → fits K O S i j PostsGone ≡ true
  unfolding fits
  gone-fits i j h = le-leb _ _ h

  passed-fits : (i j k : ℕ) → Mutual K k j → K.depot_rank j k < K.depot_rank j i → down_struck K S k j ≡ true → fits K O S i j (Passed k) ≡ true
  unfolding fits
  passed-fits i j k p l d = and_intro (ahead-intro K i j k p l) d

  within : (j : ℕ) → In K.m j → placed K L j ≤ K.posts j
  unfolding placed
  within j rj = ⊎_elim (λ fine. fine) (λ over. absurd (go over (greatest K.n (λ k. eqb (L k) j) (λ k. K.depot_rank j k)))) (order (placed K L j) (K.posts j))
    where
      go : K.posts j < placed K L j → Best K.n (λ k. eqb (L k) j) (λ k. K.depot_rank j k) → ⊥
      go over (empty h) = omega (arith, over, count_none K.n (λ k. eqb (L k) j) h)
      go over (best w r t h) =
          refuse w j PostsGone (at w r t) (rw (eqb-true (L w) j t) at (left.unstruck w r (sat w r t)))
          (gone-fits w j (omega (arith, over, count-but-one K.n (λ k. eqb (L k) j) (λ k. ahead K w j k & above_struck K S k j) w r each)))
        where
          sat : (k : ℕ) → In K.n k → eqb (L k) j ≡ true → 0 < L k
          sat k i u = rw (eqb-true (L k) j u) rj.low

          at : (k : ℕ) → In K.n k → eqb (L k) j ≡ true → Mutual K k j
          at k i u = rw (eqb-true (L k) j u) at (left.pairs k i (sat k i u))

          each : (k : ℕ) → In K.n k → eqb (L k) j ≡ true → (k ≡ w → ⊥) → (ahead K w j k & above_struck K S k j) ≡ true
          each k i u ne =
              and_intro (ahead-intro K w j k (at k i u) (omega (arith, h k i u, apart)))
              (above-intro K lawful.ranged S k j (λ j' p l. above-left k j' p (inr (rw (eqb-true (L k) j u) l))))
            where
              apart : K.depot_rank j k ≡ K.depot_rank j w → ⊥
              apart q = ne (lawful.strict.depot_strict j k w (at k i u).ranked q)

  holds : HeldOpen K O S → (i j : ℕ) → O.held i j ≡ true → L i ≡ j
  unfolding fits
  holds ho i j h = ⊎_elim
      (λ e. e)
      (λ ne. absurd (refuse i (L i) (HeldElsewhere j) (left.pairs i ri sits) (left.unstruck i ri sits)
      (and_intro h (ap not (ne_eqb j (L i) (λ q. ne (sym q)))))))
      (same (L i) j)
    where
      ri : In K.n i
      ri = lawful.orders.held_trainee i j h

      sits : 0 < L i
      sits = left.sits i j (ho.pair i j h) (ho.unstruck i j h)

  avoids : (i j : ℕ) → O.barred i j ≡ true → L i ≡ j → ⊥
  unfolding fits
  avoids i j h e =
      let ri = lawful.orders.barred_trainee i j h in
      let s : 0 < L i = rw e (lawful.orders.barred_depot i j h).low in
      refuse i (L i) Barred (left.pairs i ri s) (left.unstruck i ri s) (rw e h)

  -- with no pair of kind 2 the left table is stable
  unblocked : ((i j : ℕ) → In K.n i → In K.m j → (mutual? K i j & (down_struck K S i j & ltb (placed K L j) (K.posts j))) ≡ false)
      → (i j : ℕ) → Blocks K L i j → ⊥
  unblocked h i j b = go b.takes
    where
      p : Mutual K i j
      p = b.pair

      up : Gains K L i j → (j' : ℕ) → K.trainee_rank i j' ≤ K.trainee_rank i j → (L i ≡ 0) ⊎ (K.trainee_rank i j' < K.trainee_rank i (L i))
      up (free z) j' l = inl z
      up (better g) j' l = inr (omega arith)

      down : down_struck K S i j ≡ true
      down = down-intro K lawful.ranged S i j (λ j' p' l. above-left i j' p' (up b.gains j' l))

      go : Takes K L i j → ⊥
      go (spare l) =
          never (and_intro (is-mutual K i j p) (and_intro down (lt-ltb _ _ l)))
          (h i j (lawful.ranged.trainee_in_range i j p.ranks) (lawful.ranged.depot_in_range i j p.ranks))
      go (worse k r e l) =
          let s : 0 < L k = rw e (lawful.ranged.depot_in_range i j p.ranks).low in
          refuse k j (Passed i) (rw e at (left.pairs k r s)) (rw e at (left.unstruck k r s)) (passed-fits k j i p l down)

  pub fitting : HeldOpen K O S → Fitting K O S L
  fitting ho = go (find-pair K.n K.m (λ i j. mutual? K i j & (down_struck K S i j & ltb (placed K L j) (K.posts j))))
    where
      go : FindPair K.n K.m (λ i j. mutual? K i j & (down_struck K S i j & ltb (placed K L j) (K.posts j))) → Fitting K O S L
      go (found-pair i j ri rj t) =
          let t' = and_right (mutual? K i j) _ t in
          room i j
          (record {
            within = within;
            pair = mutual-is K i j (and_left _ _ t);
            down = and_left _ _ t';
            room = ltb-true _ _ (and_right (down_struck K S i j) _ t');
          })
      go (no-pair h) = respecting
          (record {
            stable = record { matching = record { pairs = left.pairs; within = within }; unblocked = unblocked h };
            holds = holds ho;
            avoids = avoids;
          })
