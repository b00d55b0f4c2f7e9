-- How many entries the lists of a full placement have: as many as its sides have in the text; and there are no more mutual pairs than entries.
-- Assumes nothing.
use Prim.Native.Nat.{ℕ, zero, suc, ◌+◌, ◌≤◌}
use mathlib.Core.Path.{◌≡◌, refl, ap, ◌∙◌}
use mathlib.Core.Option.{some}
use mathlib.Core.List.{List, [], ◌∷◌, map}
use native.Mathlib.Omega.{arith}
use native.Mathlib.Nat.{le_trans}
use lib.ListN.{length, get_or}
use lib.Dec.{ltb, eqb}
use borrow.Author.Tests.{lt-ltb, eq-eqb}
use Rattle.meaning.specs.Numbers.{In, bit, sum, count}
use Rattle.meaning.specs.Lists.{place, weigh}
use Rattle.meaning.specs.Placement.{Placement, size, depot_size, Legal}
use Rattle.meaning.specs.Full.{FullDepot, Full, whole, full}
use Rattle.meaning.specs.Market.{Market, trainee_list, no_depot, depot_of, market, mutual?}
use Rattle.meaning.specs.Strikes.{weight, mutual_pairs}
use Rattle.meaning.proofs.Numbers.{sum-cong, sum_mono, sum-zero, sum-plus, count-mono, count-one}
use Rattle.meaning.proofs.Lists.{At, here, later, nowhere, at}
use Rattle.meaning.proofs.Pairs.{mutual-is}
use Rattle.meaning.proofs.Full.{received, FullBack, full_back, listed}

-- ---- the sum over a list, and the sum by number

weigh-map : {A B : Type 0} (f : B → ℕ) (g : A → B) (l : List A) → weigh f (map g l) ≡ weigh (λ x. f (g x)) l
unfolding weigh
weigh-map f g [] = refl
weigh-map f g (x ∷ l) = ap (λ z. f (g x) + z) (weigh-map f g l)

sum-front : (n : ℕ) (g : ℕ → ℕ) → sum (suc n) g ≡ g 1 + sum n (λ k. g (suc k))
unfolding sum
sum-front zero g = refl
sum-front (suc n) g = ap (λ z. g (suc (suc n)) + z) (sum-front n g) ∙ omega arith

-- the sum by number, 1 to as many as there are
sum-weigh : {A : Type 0} (f : A → ℕ) (d : A) (l : List A) → sum (length l) (λ i. f (get_or (d ∷ l) i d)) ≡ weigh f l
unfolding sum weigh
sum-weigh f d [] = refl
sum-weigh {A} f d (x ∷ l) =
    sum-front (length l) (λ i. f (get_or (d ∷ x ∷ l) i d))
    ∙ ap (λ z. f x + z) (sum-cong (length l) _ (λ i. f (get_or (d ∷ l) i d)) later ∙ sum-weigh f d l)
  where
    later : (i : ℕ) → In (length l) i → f (get_or (x ∷ l) i d) ≡ f (get_or (d ∷ l) i d)
    later zero u = absurd (omega (arith, u.low))
    later (suc k) u = refl

-- ---- the entries of both sides

module _ (p : Placement) (F : Full) (legal : Legal p) (received-all : full p ≡ whole F) where
  back : FullBack p F
  back = full_back p F received-all

  pub trainee_entries : sum (length F.trainees) (λ i. length (trainee_list F i)) ≤ 4096
  unfolding trainee_list size
  trainee_entries =
      let x : weigh size p.trainees ≡ weigh length F.trainees = ap (weigh size) back.trainees ∙ weigh-map size some F.trainees in
      let y = sum-weigh length [] F.trainees in
      omega (arith, legal.trainee_entries)

  pub depot_entries : sum (length F.depots) (λ j. length (depot_of F j).list) ≤ 4096
  unfolding depot_of depot_size size
  depot_entries =
      let x : weigh depot_size p.depots ≡ weigh (λ (d : FullDepot). length d.list) F.depots = ap (weigh depot_size) back.depots ∙ weigh-map depot_size received F.depots in
      let y = sum-weigh (λ (d : FullDepot). length d.list) no_depot F.depots in
      omega (arith, legal.depot_entries)

-- ---- mutual pairs

-- no more numbers stand on a list than it has entries
count-listed : (m : ℕ) (l : List ℕ) → count m (λ j. ltb 0 (place l j)) ≤ length l
unfolding count place
count-listed m [] = omega (arith, sum-zero m)
count-listed m (y ∷ ys) =
    let a = sum_mono m (λ j. bit (ltb 0 (place (y ∷ ys) j))) (λ j. bit (eqb y j) + bit (ltb 0 (place ys j))) (λ j _. split j) in
    omega (arith, a, sum-plus m (λ j. bit (eqb y j)) (λ j. bit (ltb 0 (place ys j))), count-one m y, count-listed m ys)
  where
    split : (j : ℕ) → bit (ltb 0 (place (y ∷ ys) j)) ≤ bit (eqb y j) + bit (ltb 0 (place ys j))
    split j = go (place (y ∷ ys) j) (at ys y j)
      where
        go : (q : ℕ) → At ys y j q → bit (ltb 0 q) ≤ bit (eqb y j) + bit (ltb 0 (place ys j))
        go q (here e) = rw (eq-eqb y j e) (omega arith)
        go q (later ne k e) = rw (e, lt-ltb 0 (suc k) (omega arith), lt-ltb 0 (suc (suc k)) (omega arith)) (omega arith)
        go q (nowhere ne e) = omega arith

pub pairs-listed : (K : Market) (lists : ℕ → List ℕ) → ((i j : ℕ) → K.trainee_rank i j ≡ place (lists i) j) → mutual_pairs K ≤ sum K.n (λ i. length (lists i))
unfolding mutual_pairs weight
pairs-listed K lists listed = sum_mono K.n _ _ (λ i _. row i)
  where
    row : (i : ℕ) → count K.m (mutual? K i) ≤ length (lists i)
    row i = le_trans
        (count-mono K.m (mutual? K i) (λ j. ltb 0 (place (lists i) j)) (λ j _ t. lt-ltb _ _ (rw listed at (mutual-is K i j t).ranks)))
        (count-listed K.m (lists i))

-- no more mutual pairs than entries of the trainees' lists
pub mutual-few : (p : Placement) (F : Full) → Legal p → full p ≡ whole F → mutual_pairs (market F) ≤ 4096
unfolding market
mutual-few p F legal received-all = le_trans (pairs-listed (market F) (trainee_list F) (listed F)) (trainee_entries p F legal received-all)
