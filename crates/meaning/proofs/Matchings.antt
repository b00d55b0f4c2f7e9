-- The tests of a table say what they should: blocking, stable, held and barred pairs, respecting.
-- Assumes nothing.
use Prim.Native.Nat.{ℕ, ◌≤◌}
use mathlib.Core.Path.{◌≡◌, refl, ap, subst}
use mathlib.Core.Logic.{⊎_elim}
use mathlib.Core.Bool.{Bool, true, not, false≢true}
use mathlib.Core.List.{List, [], ◌∷◌}
use lib.Dec.{ltb, eqb}
use borrow.Author.Tests.{ltb-true, lt-ltb, leb-true, le-leb, eqb-true, eqb-false, eq-eqb, ne_eqb, not-true}
use Rattle.meaning.specs.Numbers.{In, ◌&◌, ◌or◌, imp, all}
use Rattle.meaning.specs.Lists.{some?}
use Rattle.meaning.specs.Placement.{Kind, held, barred, Order}
use Rattle.meaning.specs.Market.{Market, same_kind, names, standing, Ranged, Table, mutual?, placed, Gains, free, better, Takes, spare, worse, Blocks, Stable, Respecting}
use Rattle.meaning.specs.Endings.{blocks?, within?, stable?, obeys?, obeys_all?, respecting?}
use Rattle.meaning.proofs.Booleans.{true-or-false, never, is_false, and_left, and_right, and_intro, or_cases, or_left, or_right, imp_use, imp_intro}
use Rattle.meaning.proofs.Numbers.{Find, found, none_found, find, all-use, all-intro}
use Rattle.meaning.proofs.Lists.{some-here, some-later, some-cases}
use Rattle.meaning.proofs.Pairs.{mutual-is, is-mutual}

module _ (K : Market) (M : Table) where
  pub blocks_is : (i j : ℕ) → blocks? K M i j ≡ true → Blocks K M i j
  unfolding blocks?
  blocks_is i j h = record {
    pair = mutual-is K i j (and_left _ _ h);
    gains = ⊎_elim (λ t. free (eqb-true _ _ t)) (λ t. better (ltb-true _ _ t)) (or_cases _ _ (and_left _ _ (and_right (mutual? K i j) _ h)));
    takes = ⊎_elim (λ t. spare (ltb-true _ _ t)) (λ t. one t (find K.n (λ k. eqb (M k) j & ltb (K.depot_rank j i) (K.depot_rank j k))))
        (or_cases _ _ (and_right (eqb (M i) 0 or ltb (K.trainee_rank i j) (K.trainee_rank i (M i))) _ (and_right (mutual? K i j) _ h)));
  }
    where
      one : not (all K.n (λ k. not (eqb (M k) j & ltb (K.depot_rank j i) (K.depot_rank j k)))) ≡ true
          → Find K.n (λ k. eqb (M k) j & ltb (K.depot_rank j i) (K.depot_rank j k)) → Takes K M i j
      one t (found k r u) = worse k r (eqb-true _ _ (and_left _ _ u)) (ltb-true _ _ (and_right (eqb (M k) j) _ u))
      one t (none_found g) = absurd (never (all-intro K.n _ (λ k r. ap not (g k r))) (not-true _ t))

  pub is-blocks : (i j : ℕ) → Blocks K M i j → blocks? K M i j ≡ true
  unfolding blocks?
  is-blocks i j b = and_intro (is-mutual K i j b.pair) (and_intro (gain b.gains) (take b.takes))
    where
      gain : Gains K M i j → (eqb (M i) 0 or ltb (K.trainee_rank i j) (K.trainee_rank i (M i))) ≡ true
      gain (free e) = or_left _ _ (eq-eqb _ _ e)
      gain (better l) = or_right _ _ (lt-ltb _ _ l)

      take : Takes K M i j → (ltb (placed K M j) (K.posts j) or not (all K.n (λ k. not (eqb (M k) j & ltb (K.depot_rank j i) (K.depot_rank j k))))) ≡ true
      take (spare l) = or_left _ _ (lt-ltb _ _ l)
      take (worse k r e l) = or_right _ _ (⊎_elim
          (λ t. absurd (never (and_intro (eq-eqb (M k) j e) (lt-ltb (K.depot_rank j i) (K.depot_rank j k) l)) (not-true _ (all-use K.n _ t k r))))
          (λ u. ap not u)
          (true-or-false (all K.n (λ k. not (eqb (M k) j & ltb (K.depot_rank j i) (K.depot_rank j k))))))

  pub within-is : within? K M ≡ true → (j : ℕ) → In K.m j → placed K M j ≤ K.posts j
  unfolding within?
  within-is h j r = leb-true _ _ (all-use K.m _ h j r)

  pub is_within : ((j : ℕ) → In K.m j → placed K M j ≤ K.posts j) → within? K M ≡ true
  unfolding within?
  is_within h = all-intro K.m _ (λ j r. le-leb _ _ (h j r))

module _ (K : Market) (ranged : Ranged K) (M : Table) where
  pub stable-is : stable? K M ≡ true → Stable K M
  unfolding stable?
  stable-is h = record {
    matching = record {
      pairs = λ i r l. mutual-is K i (M i) (imp_use _ _ (all-use K.n (λ i. imp (ltb 0 (M i)) (mutual? K i (M i))) (and_left _ _ h) i r) (lt-ltb _ _ l));
      within = within-is K M (and_left _ _ rest);
    };
    unblocked = λ i j b.
        let ri = ranged.trainee_in_range i j b.pair.ranks in
        let rj = ranged.depot_in_range i j b.pair.ranks in
        never (is-blocks K M i j b) (not-true _ (all-use K.m (λ j. not (blocks? K M i j)) (all-use K.n _ last i ri) j rj));
  }
    where
      rest : (within? K M & all K.n (λ i. all K.m (λ j. not (blocks? K M i j)))) ≡ true
      rest = and_right (all K.n (λ i. imp (ltb 0 (M i)) (mutual? K i (M i)))) _ h

      last : all K.n (λ i. all K.m (λ j. not (blocks? K M i j))) ≡ true
      last = and_right (within? K M) _ rest

  pub is-stable : Stable K M → stable? K M ≡ true
  unfolding stable?
  is-stable s =
      and_intro (all-intro K.n _ (λ i r. imp_intro _ _ (λ t. is-mutual K i (M i) (s.matching.pairs i r (ltb-true _ _ t)))))
      (and_intro (is_within K M s.matching.within)
      (all-intro K.n _ (λ i _. all-intro K.m _ (λ j _. ap not (is_false (blocks? K M i j) (λ t. s.unblocked i j (blocks_is K M i j t)))))))

-- ---- held and barred pairs

-- what an order that names a pair says of it
module _ (k : Kind) (i j : ℕ) (o : Order) (t : names k i j o ≡ true) where
  pub names-kind : same_kind k o.kind ≡ true
  unfolding names
  names-kind = and_left _ _ t

  pub names-trainee : o.trainee ≡ i
  unfolding names
  names-trainee = eqb-true _ _ (and_left _ _ (and_right (same_kind k o.kind) _ t))

  pub names-depot : o.depot ≡ j
  unfolding names
  names-depot = eqb-true _ _ (and_right (eqb o.trainee i) _ (and_right (same_kind k o.kind) _ t))

pub names-own : (k : Kind) (o : Order) → same_kind k o.kind ≡ true → names k o.trainee o.depot o ≡ true
unfolding names
names-own k o t = and_intro t (and_intro (eq-eqb o.trainee o.trainee refl) (eq-eqb o.depot o.depot refl))

pub same-own : (k : Kind) → same_kind k k ≡ true
unfolding same_kind
same-own held = refl
same-own barred = refl

-- an order is obeyed exactly if the table has the held pair, and hasn't the barred one
module _ (M : Table) where
  -- what the order asks, by its kind
  abbrev asks : Kind → ℕ → ℕ → Type 0
  asks held i j = M i ≡ j
  asks barred i j = M i ≡ j → ⊥

  obeys-asks : (o : Order) → obeys? M o ≡ true → asks o.kind o.trainee o.depot
  unfolding obeys?
  obeys-asks o h = go o.kind h
    where
      go : (k : Kind) → elim k as (λ _. Bool) [ held ↦ eqb (M o.trainee) o.depot | barred ↦ not (eqb (M o.trainee) o.depot) ] ≡ true
          → asks k o.trainee o.depot
      go held h = eqb-true _ _ h
      go barred h = eqb-false _ _ (not-true _ h)

  asks-obeys : (o : Order) → asks o.kind o.trainee o.depot → obeys? M o ≡ true
  unfolding obeys?
  asks-obeys o h = go o.kind h
    where
      go : (k : Kind) → asks k o.trainee o.depot
          → elim k as (λ _. Bool) [ held ↦ eqb (M o.trainee) o.depot | barred ↦ not (eqb (M o.trainee) o.depot) ] ≡ true
      go held h = eq-eqb _ _ h
      go barred h = ap not (ne_eqb _ _ h)

  same-asks : (k l : Kind) (i j : ℕ) → same_kind k l ≡ true → asks l i j → asks k i j
  unfolding same_kind
  same-asks held held i j t h = h
  same-asks held barred i j t h = absurd (false≢true t)
  same-asks barred held i j t h = absurd (false≢true t)
  same-asks barred barred i j t h = h

  -- where all orders are obeyed, each pair that is named is as its kind asks
  obeyed : (os : List Order) → obeys_all? os M ≡ true → (k : Kind) (i j : ℕ) → some? (names k i j) os ≡ true → asks k i j
  unfolding obeys_all? some?
  obeyed [] h k i j t = absurd (false≢true t)
  obeyed (o ∷ os) h k i j t = ⊎_elim
      (λ n. same-asks k o.kind i j (names-kind k i j o n)
      (subst (λ y. asks o.kind i y) (names-depot k i j o n) (subst (λ x. asks o.kind x o.depot) (names-trainee k i j o n) (obeys-asks o (and_left _ _ h)))))
      (λ t'. obeyed os (and_right (obeys? M o) _ h) k i j t')
      (some-cases (names k i j) o os t)

  is-obeyed : (os : List Order) → ((k : Kind) (i j : ℕ) → some? (names k i j) os ≡ true → asks k i j) → obeys_all? os M ≡ true
  unfolding obeys_all?
  is-obeyed [] h = refl
  is-obeyed (o ∷ os) h =
      and_intro
      (asks-obeys o (h o.kind o.trainee o.depot (some-here (names o.kind o.trainee o.depot) o os (names-own o.kind o (same-own o.kind)))))
      (is-obeyed os (λ k i j t. h k i j (some-later (names k i j) o os t)))

module _ (K : Market) (ranged : Ranged K) (os : List Order) (M : Table) where
  pub respecting-is : respecting? K os M ≡ true → Respecting K (standing os) M
  unfolding respecting? standing
  respecting-is h = record {
    stable = stable-is K ranged M (and_left _ _ h);
    holds = obeyed M os (and_right (stable? K M) _ h) held;
    avoids = obeyed M os (and_right (stable? K M) _ h) barred;
  }

  pub is-respecting : Respecting K (standing os) M → respecting? K os M ≡ true
  unfolding respecting? standing
  is-respecting ok = and_intro (is-stable K ranged M ok.stable) (is-obeyed M os asked)
    where
      asked : (k : Kind) (i j : ℕ) → some? (names k i j) os ≡ true → asks M k i j
      asked held i j t = ok.holds i j t
      asked barred i j t = ok.avoids i j t
