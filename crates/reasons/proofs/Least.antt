-- The smallest number that passes, whatever the order in which they are met.
-- Assumes nothing.
use Prim.Native.Nat.{ℕ, zero, suc, ◌≤◌, ◌<◌}
use mathlib.Core.Path.{◌≡◌, refl, sym, ap, ◌∙◌}
use mathlib.Core.Logic.{◌⊎◌, inl, inr, ⊎_elim}
use mathlib.Core.Bool.{Bool, true, false, false≢true}
use mathlib.Core.Option.{Option, some}
use mathlib.Core.List.{List, [], ◌∷◌}
use native.Mathlib.Omega.{arith}
use lib.Dec.{ltb}
use borrow.Author.Tests.{ltb-true, ltb-false, lt-ltb}
use Rattle.reasons.specs.Scans.{smaller_by, smaller, smaller_if, least_in}
use Rattle.reasons.specs.Reasons.{number_or}
use Rattle.meaning.specs.Numbers.{In, ◌&◌, smallest}
use Rattle.meaning.specs.Lists.{place}
use Rattle.meaning.proofs.Booleans.{true-or-false, never, and_left, and_right, and_intro}
use Rattle.meaning.proofs.Numbers.{order, Smallest, least, no-least, smallest-is}
use Rattle.meaning.proofs.Lists.{At, here, later, nowhere, at, place-cases, place_here}
use Rattle.ranks.specs.View.{Names}
use Rattle.ranks.proofs.Places.{on_list}

-- w is the least that passes, 0 where none does; 0 doesn't pass
pub data LeastOf (Q : ℕ → Type 0) : ℕ → Type 0 where
  none_is : ((k : ℕ) → Q k → ⊥) → LeastOf Q 0
  least-is : (w : ℕ) → Q (suc w) → ((k : ℕ) → Q k → suc w ≤ k) → LeastOf Q (suc w)

pub least-map : {Q R : ℕ → Type 0} {w : ℕ} → ((k : ℕ) → Q k → R k) → ((k : ℕ) → R k → Q k) → LeastOf Q w → LeastOf R w
least-map f g (none_is h) = none_is (λ k r. h k (g k r))
least-map f g (least-is w q h) = least-is w (f (suc w) q) (λ k r. h k (g k r))

-- the least is what a search upward finds first
pub smallest-least : (n : ℕ) (f : ℕ → Bool) (w : ℕ) → LeastOf (λ k. In n k × (f k ≡ true)) w → smallest n f ≡ number_or w
unfolding number_or
smallest-least n f w q = go (smallest n f) (smallest-is n f) w q
  where
    go : (o : Option ℕ) → Smallest n f o → (w : ℕ) → LeastOf (λ k. In n k × (f k ≡ true)) w → o ≡ number_or w
    go _ (no-least h) _ (none_is g) = refl
    go _ (no-least h) _ (least-is v q g) = absurd (never q.1 (h (suc v) q.0))
    go _ (least k r t h) _ (none_is g) = absurd (g k (r, t))
    go _ (least k r t h) _ (least-is v q g) =
        let l = g k (r, t) in
        ap some (⊎_elim (λ (e : k ≤ suc v). omega arith) (λ (e : suc v < k). absurd (never q.1 (h (suc v) q.0 e))) (order k (suc v)))

-- ---- one more candidate

take_more : {Q : ℕ → Type 0} (k w : ℕ) → 1 ≤ k → LeastOf Q w → LeastOf (λ x. Q x ⊎ (x ≡ k)) (smaller k w)
unfolding smaller
take_more (suc k) w p (none_is h) = least-is k (inr refl) (λ x. ⊎_elim (λ q. absurd (h x q)) (λ e. omega arith))
take_more {Q = Q} zero w p _ = absurd (omega arith)
take_more {Q} (suc k) w p (least-is v q h) = go (true-or-false (ltb (suc k) (suc v)))
  where
    go : (ltb (suc k) (suc v) ≡ true) ⊎ (ltb (suc k) (suc v) ≡ false) → LeastOf (λ x. Q x ⊎ (x ≡ suc k)) (smaller_by (ltb (suc k) (suc v)) (suc k) (suc v))
    go (inl t) = rw t (least-is k (inr refl) (λ x. ⊎_elim (λ y. omega (arith, h x y, ltb-true (suc k) (suc v) t)) (λ e. omega arith)))
    go (inr u) = rw u (least-is v (inl q) (λ x. ⊎_elim (λ y. h x y) (λ e. omega (arith, ltb-false (suc k) (suc v) u))))

pub take-if : {Q : ℕ → Type 0} (b : Bool) (k w : ℕ) → 1 ≤ k → LeastOf Q w → LeastOf (λ x. Q x ⊎ ((x ≡ k) × (b ≡ true))) (smaller_if b k w)
unfolding smaller_if
take-if true k w p l = least-map (λ x. ⊎_elim (λ q. inl q) (λ e. inr (e, refl))) (λ x. ⊎_elim (λ q. inl q) (λ e. inr e.0)) (take_more k w p l)
take-if false k w p l = least-map (λ x q. inl q) (λ x. ⊎_elim (λ q. q) (λ e. absurd (false≢true e.1))) l

-- ---- along a list

pub least-list : (f : ℕ → Bool) (n : ℕ) (l : List ℕ) → Names n l → {Q : ℕ → Type 0} (w : ℕ) → LeastOf Q w
    → LeastOf (λ x. Q x ⊎ ((0 < place l x) × (f x ≡ true))) (least_in f l w)
unfolding least_in place
least-list f n [] r w l = least-map (λ x q. inl q) (λ x. ⊎_elim (λ q. q) (λ e. absurd (let z = e.0 in omega arith))) l
least-list f n (y ∷ ys) r {Q} w l =
    least-map there back (least-list f n ys (λ p h. r (suc p) (omega arith)) (smaller_if (f y) y w) (take-if (f y) y w (r 0 (omega arith)).low l))
  where
    there : (x : ℕ) → (Q x ⊎ ((x ≡ y) × (f y ≡ true))) ⊎ ((0 < place ys x) × (f x ≡ true)) → Q x ⊎ ((0 < place (y ∷ ys) x) × (f x ≡ true))
    there x (inl (inl q)) = inl q
    there x (inl (inr e)) = inr (omega (arith, place_here y ys x (sym e.0)), ap f e.0 ∙ e.1)
    there x (inr e) = inr (on (place (y ∷ ys) x) (at ys y x), e.1)
      where
        on : (q : ℕ) → At ys y x q → 0 < q
        on q (here d) = omega arith
        on q (later ne p d) = omega arith
        on q (nowhere ne d) = absurd (let z = e.0 in omega arith)

    back : (x : ℕ) → Q x ⊎ ((0 < place (y ∷ ys) x) × (f x ≡ true)) → (Q x ⊎ ((x ≡ y) × (f y ≡ true))) ⊎ ((0 < place ys x) × (f x ≡ true))
    back x (inl q) = inl (inl q)
    back x (inr e) = ⊎_elim (λ d. inl (inr (sym d, ap f d ∙ e.1))) (λ d. inr (d, e.1)) (place-cases y ys x e.0)

-- the smallest of 1 to n that stands on a list and passes
pub smallest-list : (f : ℕ → Bool) (n : ℕ) (l : List ℕ) → Names n l → (g : ℕ → Bool) → ((k : ℕ) → In n k → g k ≡ ltb 0 (place l k) & f k) → smallest n g ≡ number_or (least_in f l 0)
smallest-list f n l r g same_test = smallest-least n g _ (least-map there back (least-list f n l r {Q = λ x. ⊥} 0 (none_is (λ k q. q))))
  where
    there : (k : ℕ) → ⊥ ⊎ ((0 < place l k) × (f k ≡ true)) → In n k × (g k ≡ true)
    there k = ⊎_elim (λ z. absurd z) (λ p. let i = on_list (In n) l k p.0 r in (i, same_test k i ∙ and_intro (lt-ltb _ _ p.0) p.1))

    back : (k : ℕ) → In n k × (g k ≡ true) → ⊥ ⊎ ((0 < place l k) × (f k ≡ true))
    back k p = let t = sym (same_test k p.0) ∙ p.1 in inr (ltb-true _ _ (and_left _ _ t), and_right (ltb 0 (place l k)) _ t)
