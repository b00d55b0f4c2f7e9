-- How many of 1 to n stand on a list and pass is how many of the list pass.
-- Assumes nothing.
use Prim.Native.Nat.{ℕ, zero, suc, ◌+◌, ◌≤◌, ◌<◌}
use mathlib.Core.Path.{◌≡◌, refl, sym, ap, ap₂, ◌∙◌}
use mathlib.Core.Logic.{◌⊎◌, inl, inr}
use mathlib.Core.Bool.{Bool, true, false}
use mathlib.Core.List.{List, [], ◌∷◌}
use native.Mathlib.Omega.{arith}
use native.Mathlib.Numerals.{add-one}
use lib.ListN.{drop_of_length-le, length, get_or, drop}
use lib.Seq.{drop-cons}
use lib.Dec.{ltb, eqb}
use borrow.Author.Tests.{lt-ltb, eq-eqb, ne_eqb}
use Rattle.std.specs.Prelude.{Option, Some, None}
use Rattle.reasons.specs.Answers.{choice_of}
use Rattle.reasons.specs.Reasons.{number_or}
use Rattle.reasons.specs.Scans.{count_in, smaller_by, smaller, smaller_if, smaller_of, least_in}
use Rattle.meaning.specs.Numbers.{In, ◌&◌, bit, sum, count}
use Rattle.meaning.specs.Lists.{place}
use Rattle.meaning.proofs.Numbers.{same, sum-cong, sum-zero, sum-plus, sum-in}
use Rattle.meaning.proofs.Lists.{At, here, later, nowhere, at}
use Rattle.ranks.specs.View.{Once, Names}
use Rattle.ranks.proofs.Places.{once-head, once-tail}

module _ (n : ℕ) (f : ℕ → Bool) where
  one : (y : ℕ) → In n y → sum n (λ k. bit (eqb y k & f k)) ≡ bit (f y)
  unfolding ◌&◌
  one y r = sum-cong n _ (λ k. bit (eqb y k & f y)) (λ k _. each k (same y k)) ∙ all_of (f y)
    where
      each : (k : ℕ) → (y ≡ k) ⊎ (y ≡ k → ⊥) → bit (eqb y k & f k) ≡ bit (eqb y k & f y)
      each k (inl e) = rw e
      each k (inr ne) = rw (ne_eqb y k ne)

      all_of : (b : Bool) → sum n (λ k. bit (eqb y k & b)) ≡ bit b
      all_of true = sum-cong n _ (λ k. bit (eqb y k)) (λ k _. tail (eqb y k)) ∙ sum-in n y r
        where
          tail : (b : Bool) → bit (b & true) ≡ bit b
          tail true = refl
          tail false = refl
      all_of false = sum-cong n _ (λ k. 0) (λ k _. tail (eqb y k)) ∙ sum-zero n
        where
          tail : (b : Bool) → bit (b & false) ≡ 0
          tail true = refl
          tail false = refl

  pub count-list : (l : List ℕ) → Once l → Names n l → count n (λ k. ltb 0 (place l k) & f k) ≡ count_in f l
  unfolding count_in count place ◌&◌
  count-list [] u r = sum-zero n
  count-list (y ∷ ys) u r =
      sum-cong n _ (λ k. bit (eqb y k & f k) + bit (ltb 0 (place ys k) & f k)) (λ k _. split k)
      ∙ sum-plus n (λ k. bit (eqb y k & f k)) (λ k. bit (ltb 0 (place ys k) & f k))
      ∙ ap₂ ◌+◌ (one y (r 0 (omega arith))) (count-list ys (once-tail y ys u) (λ p l. r (suc p) (omega arith)))
    where
      split : (k : ℕ) → bit (ltb 0 (place (y ∷ ys) k) & f k) ≡ bit (eqb y k & f k) + bit (ltb 0 (place ys k) & f k)
      split k = go (place (y ∷ ys) k) (at ys y k)
        where
          go : (q : ℕ) → At ys y k q → bit (ltb 0 q & f k) ≡ bit (eqb y k & f k) + bit (ltb 0 (place ys k) & f k)
          go q (here e) = let z : place ys k ≡ 0 = ap (place ys) (sym e) ∙ once-head y ys u in rw (eq-eqb y k e, z) (omega arith)
          go q (later ne p e) = rw (ne_eqb y k ne, e, lt-ltb 0 (suc p) (omega arith), lt-ltb 0 (suc (suc p)) (omega arith)) (omega arith)
          go q (nowhere ne e) = rw (ne_eqb y k ne, e) (omega arith)

-- ---- a scan along a list: one more, and the end

module _ (f : ℕ → Bool) (l : List ℕ) (k whole : ℕ) where
  pub count-more : (c : ℕ) → k < length l → whole ≡ c + count_in f (drop k l) → (d : ℕ) → d ≡ bit (f (get_or l k 0)) + c → whole ≡ d + count_in f (drop (k + 1) l)
  unfolding count_in
  count-more c h q d e =
      let s : count_in f (drop k l) ≡ bit (f (get_or l k 0)) + count_in f (drop (k + 1) l) = rw (add-one, drop-cons l k 0) in
      omega arith

  pub count-done : (c : ℕ) → length l ≤ k → whole ≡ c + count_in f (drop k l) → c ≡ whole
  unfolding count_in
  count-done c h q =
      let s : count_in f (drop k l) ≡ 0 = rw (drop_of_length-le l h) in
      omega arith

  pub least_more : (w : ℕ) → k < length l → whole ≡ least_in f (drop k l) w → (v : ℕ) → v ≡ smaller_if (f (get_or l k 0)) (get_or l k 0) w → whole ≡ least_in f (drop (k + 1) l) v
  unfolding least_in
  least_more w h q v e = q ∙ rw (add-one, drop-cons l k 0, e)

  pub least-done : (w : ℕ) → length l ≤ k → whole ≡ least_in f (drop k l) w → w ≡ whole
  unfolding least_in
  least-done w h q = sym (q ∙ rw (drop_of_length-le l h))

-- ---- the smallest found so far, as a number: 0 for none

abbrev pub number_found : Option ℕ → ℕ
number_found None = 0
number_found (Some k) = k

abbrev pub Found : Option ℕ → Type 0
Found None = Unit {0}
Found (Some k) = 0 < k

pub found-smaller : (b : Bool) (k : ℕ) (w : Option ℕ) → 0 < k → Found w → Found (smaller_of b k w)
found-smaller false k w l f = f
found-smaller true k None l f = l
found-smaller true k (Some w) l f = go (ltb k w)
  where
    go : (b : Bool) → 0 < smaller_by b k w
    go true = l
    go false = f

pub smaller-number : (b : Bool) (k : ℕ) (w : Option ℕ) → Found w → number_found (smaller_of b k w) ≡ smaller_if b k (number_found w)
unfolding smaller_if smaller
smaller-number false k w f = refl
smaller-number true k None f = refl
smaller-number true k (Some zero) f = absurd (omega arith)
smaller-number true k (Some (suc w)) f = refl

pub found-number : (w : Option ℕ) → Found w → choice_of w ≡ number_or (number_found w)
unfolding choice_of number_or
found-number None f = refl
found-number (Some zero) f = absurd (omega arith)
found-number (Some (suc w)) f = refl
