-- What the tests on pairs say: mutual, ranked above, everything struck down to a place.
-- Assumes nothing.

use Prim.Native.Nat.{ℕ, ◌≤◌, ◌<◌}
use mathlib.Core.Path.{◌≡◌}
use mathlib.Core.Bool.{true}
use lib.Dec.{ltb, leb}
use borrow.Author.Tests.{ltb-true, lt-ltb, leb-true, le-leb}
use Rattle.meaning.specs.Numbers.{◌&◌}
use Rattle.meaning.specs.Market.{Market, Ranged, Mutual, mutual?}
use Rattle.meaning.specs.Strikes.{Struck, above_struck, down_struck, ahead}
use Rattle.meaning.proofs.Booleans.{and_left, and_right, and_intro, imp_use, imp_intro}
use Rattle.meaning.proofs.Numbers.{all-use, all-intro}

module _ (K : Market) where
  pub mutual-is : (i j : ℕ) → mutual? K i j ≡ true → Mutual K i j
  unfolding mutual?
  mutual-is i j h = record { ranks = ltb-true _ _ (and_left _ _ h); ranked = ltb-true _ _ (and_right _ _ h) }

  pub is-mutual : (i j : ℕ) → Mutual K i j → mutual? K i j ≡ true
  unfolding mutual?
  is-mutual i j p = and_intro (lt-ltb _ _ p.ranks) (lt-ltb _ _ p.ranked)

  pub ahead-pair : (i j k : ℕ) → ahead K i j k ≡ true → Mutual K k j
  unfolding ahead
  ahead-pair i j k h = mutual-is k j (and_left _ _ h)

  pub ahead-less : (i j k : ℕ) → ahead K i j k ≡ true → K.depot_rank j k < K.depot_rank j i
  unfolding ahead
  ahead-less i j k h = ltb-true _ _ (and_right (mutual? K k j) _ h)

  pub ahead-intro : (i j k : ℕ) → Mutual K k j → K.depot_rank j k < K.depot_rank j i → ahead K i j k ≡ true
  unfolding ahead
  ahead-intro i j k p l = and_intro (is-mutual k j p) (lt-ltb _ _ l)

module _ (K : Market) (ranged : Ranged K) (S : Struck) where
  pub above-use : (k j j' : ℕ) → above_struck K S k j ≡ true → Mutual K k j' → K.trainee_rank k j' < K.trainee_rank k j → S k j' ≡ true
  unfolding above_struck
  above-use k j j' h p l =
      imp_use (mutual? K k j' & ltb (K.trainee_rank k j') (K.trainee_rank k j)) (S k j')
      (all-use K.m _ h j' (ranged.depot_in_range k j' p.ranks))
      (and_intro (is-mutual K k j' p) (lt-ltb _ _ l))

  pub down-use : (k j j' : ℕ) → down_struck K S k j ≡ true → Mutual K k j' → K.trainee_rank k j' ≤ K.trainee_rank k j → S k j' ≡ true
  unfolding down_struck
  down-use k j j' h p l =
      imp_use (mutual? K k j' & leb (K.trainee_rank k j') (K.trainee_rank k j)) (S k j')
      (all-use K.m _ h j' (ranged.depot_in_range k j' p.ranks))
      (and_intro (is-mutual K k j' p) (le-leb _ _ l))

  pub above-intro : (k j : ℕ) → ((j' : ℕ) → Mutual K k j' → K.trainee_rank k j' < K.trainee_rank k j → S k j' ≡ true) → above_struck K S k j ≡ true
  unfolding above_struck
  above-intro k j h = all-intro K.m _ (λ j' _. imp_intro _ _ (λ t.
      h j' (mutual-is K k j' (and_left _ _ t)) (ltb-true _ _ (and_right (mutual? K k j') _ t))))

  pub down-intro : (k j : ℕ) → ((j' : ℕ) → Mutual K k j' → K.trainee_rank k j' ≤ K.trainee_rank k j → S k j' ≡ true) → down_struck K S k j ≡ true
  unfolding down_struck
  down-intro k j h = all-intro K.m _ (λ j' _. imp_intro _ _ (λ t.
      h j' (mutual-is K k j' (and_left _ _ t)) (leb-true _ _ (and_right (mutual? K k j') _ t))))
