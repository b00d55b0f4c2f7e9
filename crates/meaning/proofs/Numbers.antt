-- Sums, counts and searches over the numbers 1 to n.
-- Assumes nothing.
use Prim.Native.Nat.{ℕ, zero, suc, ◌+◌, ◌≤◌, ◌<◌}
use mathlib.Core.Path.{◌≡◌, refl, sym, ap, ap₂, ◌∙◌, subst}
use mathlib.Core.Logic.{◌⊎◌, inl, inr, ⊎_elim}
use mathlib.Core.Bool.{Bool, true, false, false≢true}
use mathlib.Core.Option.{Option, none, some}
use native.Mathlib.Omega.{arith}
use native.Mathlib.Nat.{eq-or-lt_of_le}
use lib.Dec.{leb, eqb}
use borrow.Author.Tests.{leb-true, leb-false, eqb-true, eqb-false, eq-eqb, ne_eqb}
use Rattle.meaning.specs.Numbers.{In, all, bit, sum, count, first_from, smallest}
use Rattle.meaning.proofs.Booleans.{true-or-false, never}

-- ---- In

pub last : (n : ℕ) → In (suc n) (suc n)
last n = record { low = omega arith; high = omega arith }

pub wider : (n k : ℕ) → In n k → In (suc n) k
wider n k h = record { low = h.low; high = omega arith }

pub none_in : {k : ℕ} → In zero k → ⊥
none_in h = omega arith

pub inner : (n k : ℕ) → In (suc n) k → (k ≡ suc n) ⊎ In n k
inner n k h = ⊎_elim (λ e. inl e) (λ l. inr (record { low = h.low; high = omega arith })) (eq-or-lt_of_le h.high)

-- ---- comparisons

pub order : (a b : ℕ) → (a ≤ b) ⊎ (b < a)
order a b = ⊎_elim (λ t. inl (leb-true a b t)) (λ u. inr (leb-false a b u)) (true-or-false (leb a b))

pub same : (a b : ℕ) → (a ≡ b) ⊎ (a ≡ b → ⊥)
same a b = ⊎_elim (λ t. inl (eqb-true a b t)) (λ u. inr (eqb-false a b u)) (true-or-false (eqb a b))

pub bit_le : (a b : Bool) → (a ≡ true → b ≡ true) → bit a ≤ bit b
bit_le true b h = rw (h refl) (omega arith)
bit_le false b h = omega arith

-- ---- sums

pub sum-cong : (n : ℕ) (f g : ℕ → ℕ) → ((k : ℕ) → In n k → f k ≡ g k) → sum n f ≡ sum n g
unfolding sum
sum-cong zero f g h = refl
sum-cong (suc n) f g h = ap₂ ◌+◌ (h (suc n) (last n)) (sum-cong n f g (λ k i. h k (wider n k i)))

pub sum_mono : (n : ℕ) (f g : ℕ → ℕ) → ((k : ℕ) → In n k → f k ≤ g k) → sum n f ≤ sum n g
unfolding sum
sum_mono zero f g h = omega arith
sum_mono (suc n) f g h = omega (arith, h (suc n) (last n), sum_mono n f g (λ k i. h k (wider n k i)))

pub sum_less : (n : ℕ) (f g : ℕ → ℕ) → ((k : ℕ) → In n k → f k ≤ g k) → (i : ℕ) → In n i → f i < g i → sum n f < sum n g
unfolding sum
sum_less zero f g h i r l = absurd (none_in r)
sum_less (suc n) f g h i r l = go (inner n i r) (λ r'. sum_less n f g all i r' l)
  where
    all : (k : ℕ) → In n k → f k ≤ g k
    all k x = h k (wider n k x)

    go : (i ≡ suc n) ⊎ In n i → (In n i → sum n f < sum n g) → sum (suc n) f < sum (suc n) g
    go (inl e) w = let l' : f (suc n) < g (suc n) = subst (λ (k : ℕ). f k < g k) e l in omega (arith, sum_mono n f g all)
    go (inr r') w = omega (arith, h (suc n) (last n), w r')

pub sum-zero : (n : ℕ) → sum n (λ k. 0) ≡ 0
unfolding sum
sum-zero zero = refl
sum-zero (suc n) = omega (arith, sum-zero n)

pub sum-plus : (n : ℕ) (f g : ℕ → ℕ) → sum n (λ k. f k + g k) ≡ sum n f + sum n g
unfolding sum
sum-plus zero f g = refl
sum-plus (suc n) f g = omega (arith, sum-plus n f g)

pub sum-swap : (n m : ℕ) (f : ℕ → ℕ → ℕ) → sum n (λ k. sum m (λ j. f k j)) ≡ sum m (λ j. sum n (λ k. f k j))
unfolding sum
sum-swap zero m f = sym (sum-zero m)
sum-swap (suc n) m f =
    ap (λ x. sum m (λ j. f (suc n) j) + x) (sum-swap n m f)
    ∙ sym (sum-plus m (λ j. f (suc n) j) (λ j. sum n (λ k. f k j)))

-- a number is met once among 1 to m, if it is one of them
pub sum-out : (m x : ℕ) → (In m x → ⊥) → sum m (λ j. bit (eqb x j)) ≡ 0
unfolding sum
sum-out zero x h = refl
sum-out (suc m) x h =
    rw (ne_eqb x (suc m) (λ e. h (subst (λ k. In (suc m) k) (sym e) (last m))))
    (omega (arith, sum-out m x (λ i. h (wider m x i))))

pub sum-in : (m x : ℕ) → In m x → sum m (λ j. bit (eqb x j)) ≡ 1
unfolding sum
sum-in zero x h = absurd (none_in h)
sum-in (suc m) x h = go (inner m x h) (λ r. sum-in m x r)
  where
    go : (x ≡ suc m) ⊎ In m x → (In m x → sum m (λ j. bit (eqb x j)) ≡ 1) → sum (suc m) (λ j. bit (eqb x j)) ≡ 1
    go (inl e) w =
        rw (eq-eqb x (suc m) e) (omega (arith, sum-out m x (λ (i : In m x). omega arith)))
    go (inr r) w = rw (ne_eqb x (suc m) (λ e. omega arith)) (omega (arith, w r))

-- ---- counts

pub count-mono : (n : ℕ) (f g : ℕ → Bool) → ((k : ℕ) → In n k → f k ≡ true → g k ≡ true) → count n f ≤ count n g
unfolding count
count-mono n f g h = sum_mono n _ _ (λ k i. bit_le (f k) (g k) (h k i))

pub count_less : (n : ℕ) (f g : ℕ → Bool) → ((k : ℕ) → In n k → f k ≡ true → g k ≡ true)
    → (i : ℕ) → In n i → f i ≡ false → g i ≡ true → count n f < count n g
unfolding count
count_less n f g h i r a b = sum_less n _ _ (λ k x. bit_le (f k) (g k) (h k x)) i r (rw (a, b) (omega arith))

-- one of them aside, f implies g
pub count-but-one : (n : ℕ) (f g : ℕ → Bool) (w : ℕ) → In n w → ((k : ℕ) → In n k → f k ≡ true → (k ≡ w → ⊥) → g k ≡ true)
    → count n f ≤ suc (count n g)
unfolding count
count-but-one n f g w r h =
    omega (arith, sum_mono n (λ k. bit (f k)) (λ k. bit (eqb w k) + bit (g k)) each, sum-plus n (λ k. bit (eqb w k)) (λ k. bit (g k)), sum-in n w r)
  where
    each : (k : ℕ) → In n k → bit (f k) ≤ bit (eqb w k) + bit (g k)
    each k i = ⊎_elim
        (λ q. rw (eq-eqb w k (sym q)) (omega (arith, bit_le (f k) true (λ _. refl))))
        (λ nq. omega (arith, bit_le (f k) (g k) (λ t. h k i t nq)))
        (same k w)

pub count-cong : (n : ℕ) (f g : ℕ → Bool) → ((k : ℕ) → In n k → f k ≡ g k) → count n f ≡ count n g
unfolding count
count-cong n f g h = sum-cong n _ _ (λ k i. ap bit (h k i))

-- one number is met at most once
pub count-one : (n x : ℕ) → count n (λ k. eqb x k) ≤ 1
unfolding count
count-one n x = ⊎_elim
    (λ (l : x ≤ 0). omega (arith, sum-out n x (λ (i : In n x). omega arith)))
    (λ (l : 0 < x). ⊎_elim
    (λ (u : x ≤ n). omega (arith, sum-in n x (record { low = l; high = u })))
    (λ (u : n < x). omega (arith, sum-out n x (λ (i : In n x). omega arith)))
    (order x n))
    (order x 0)

-- two that pass are counted twice
pub count-two : (n : ℕ) (f : ℕ → Bool) (a b : ℕ) → In n a → In n b → f a ≡ true → f b ≡ true → (a ≡ b → ⊥) → 2 ≤ count n f
count-two n f a b ra rb ta tb ne =
    omega (
      arith,
      count_less n (λ _. false) (eqb a) (λ k _ t. absurd (false≢true t)) a ra refl (eq-eqb a a refl),
      count_less n (eqb a) f (λ k _ t. subst (λ x. f x ≡ true) (eqb-true a k t) ta) b rb (ne_eqb a b ne) tb,
    )

pub count_none : (n : ℕ) (f : ℕ → Bool) → ((k : ℕ) → In n k → f k ≡ false) → count n f ≡ 0
unfolding count
count_none n f h = sum-cong n _ (λ _. 0) (λ k i. ap bit (h k i)) ∙ sum-zero n

-- ---- searches

pub data Find (n : ℕ) (f : ℕ → Bool) : Type 0 where
  found : (k : ℕ) → In n k → f k ≡ true → Find n f
  none_found : ((k : ℕ) → In n k → f k ≡ false) → Find n f

pub find : (n : ℕ) (f : ℕ → Bool) → Find n f
find zero f = none_found (λ k i. absurd (none_in i))
find (suc n) f = go (true-or-false (f (suc n))) (find n f)
  where
    go : (f (suc n) ≡ true) ⊎ (f (suc n) ≡ false) → Find n f → Find (suc n) f
    go (inl t) w = found (suc n) (last n) t
    go (inr e) (found k i t) = found k (wider n k i) t
    go (inr e) (none_found h) = none_found (λ k i. ⊎_elim (λ q. subst (λ x. f x ≡ false) (sym q) e) (λ r. h k r) (inner n k i))

pub data FindPair (n m : ℕ) (f : ℕ → ℕ → Bool) : Type 0 where
  found-pair : (i j : ℕ) → In n i → In m j → f i j ≡ true → FindPair n m f
  no-pair : ((i j : ℕ) → In n i → In m j → f i j ≡ false) → FindPair n m f

pub find-pair : (n m : ℕ) (f : ℕ → ℕ → Bool) → FindPair n m f
find-pair zero m f = no-pair (λ i j r _. absurd (none_in r))
find-pair (suc n) m f = go (find m (f (suc n))) (find-pair n m f)
  where
    go : Find m (f (suc n)) → FindPair n m f → FindPair (suc n) m f
    go (found j r t) w = found-pair (suc n) j (last n) r t
    go (none_found h) (found-pair i j r r' t) = found-pair i j (wider n i r) r' t
    go (none_found h) (no-pair g) =
        no-pair (λ i j r r'. ⊎_elim (λ q. subst (λ x. f x j ≡ false) (sym q) (h j r')) (λ r''. g i j r'' r') (inner n i r))

-- the one with the greatest g among those of 1 to n that pass f
pub data Best (n : ℕ) (f : ℕ → Bool) (g : ℕ → ℕ) : Type 0 where
  best : (w : ℕ) → In n w → f w ≡ true → ((k : ℕ) → In n k → f k ≡ true → g k ≤ g w) → Best n f g
  empty : ((k : ℕ) → In n k → f k ≡ false) → Best n f g

pub greatest : (n : ℕ) (f : ℕ → Bool) (g : ℕ → ℕ) → Best n f g
greatest zero f g = empty (λ k i. absurd (none_in i))
greatest (suc n) f g = go (true-or-false (f (suc n))) (greatest n f g)
  where
    at : {P : ℕ → Type 0} → P (suc n) → ((k : ℕ) → In n k → P k) → (k : ℕ) → In (suc n) k → P k
    at {P} p h k i = ⊎_elim (λ q. subst P (sym q) p) (λ r. h k r) (inner n k i)

    go : (f (suc n) ≡ true) ⊎ (f (suc n) ≡ false) → Best n f g → Best (suc n) f g
    go (inl t) (empty h) =
        best (suc n) (last n) t
        (at {P = λ k. f k ≡ true → g k ≤ g (suc n)} (λ _. omega arith) (λ k i u. absurd (never u (h k i))))
    go (inl t) (best w i u h) = ⊎_elim
        (λ (l : g w ≤ g (suc n)).
        best (suc n) (last n) t
        (at {P = λ k. f k ≡ true → g k ≤ g (suc n)} (λ _. omega arith) (λ k i v. omega (arith, h k i v))))
        (λ (l : g (suc n) < g w).
        best w (wider n w i) u (at {P = λ k. f k ≡ true → g k ≤ g w} (λ _. omega arith) h))
        (order (g w) (g (suc n)))
    go (inr e) (empty h) = empty (at {P = λ k. f k ≡ false} e h)
    go (inr e) (best w i u h) = best w (wider n w i) u (at {P = λ k. f k ≡ true → g k ≤ g w} (λ v. absurd (never v e)) h)

-- ---- tests over 1 to n

pub all-use : (n : ℕ) (f : ℕ → Bool) → all n f ≡ true → (k : ℕ) → In n k → f k ≡ true
unfolding all
all-use zero f h k i = absurd (none_in i)
all-use (suc n) f h k i = go (true-or-false (f (suc n))) (inner n k i) (λ t r. all-use n f t k r)
  where
    go : (f (suc n) ≡ true) ⊎ (f (suc n) ≡ false) → (k ≡ suc n) ⊎ In n k → (all n f ≡ true → In n k → f k ≡ true) → f k ≡ true
    go (inl t) (inl e) w = rw e t
    go (inl t) (inr r) w = w (rw (t, all) at h) r
    go (inr u) _ w = absurd (false≢true (rw (u, all) at h))

pub all-intro : (n : ℕ) (f : ℕ → Bool) → ((k : ℕ) → In n k → f k ≡ true) → all n f ≡ true
unfolding all
all-intro zero f h = refl
all-intro (suc n) f h = rw (h (suc n) (last n), all) (all-intro n f (λ k i. h k (wider n k i)))

-- ---- the smallest that passes

-- what a search over a, a + 1, .., d of them, finds
pub data First (d a : ℕ) (f : ℕ → Bool) : Option ℕ → Type 0 where
  first-at : (k : ℕ) → a ≤ k → k < a + d → f k ≡ true → ((k' : ℕ) → a ≤ k' → k' < k → f k' ≡ false) → First d a f (some k)
  first-none : ((k : ℕ) → a ≤ k → k < a + d → f k ≡ false) → First d a f none

pub first-from : (d a : ℕ) (f : ℕ → Bool) → First d a f (first_from d a f)
unfolding first_from
first-from zero a f = first-none (λ k l u. absurd (omega arith))
first-from (suc d) a f = go (f a) refl (first_from d (suc a) f) (first-from d (suc a) f)
  where
    from : f a ≡ false → (k : ℕ) → a ≤ k → (suc a ≤ k → f k ≡ false) → f k ≡ false
    from e k l h = ⊎_elim (λ (q : k ≡ a). rw q e) (λ nq. h (omega arith)) (same k a)

    go : (b : Bool) → f a ≡ b → (o : Option ℕ) → First d (suc a) f o → First (suc d) a f (elim b [ true ↦ some a | false ↦ o ])
    go true e o r = first-at a (omega arith) (omega arith) e (λ k l u. absurd (omega arith))
    go false e _ (first-at k l u t h) =
        first-at k (omega arith) (omega arith) t (λ k' l' u'. from e k' l' (λ m. h k' m u'))
    go false e _ (first-none h) = first-none (λ k l u. from e k l (λ m. h k m (omega arith)))

-- the smallest of 1 to n that passes, or none does
pub data Smallest (n : ℕ) (f : ℕ → Bool) : Option ℕ → Type 0 where
  least : (k : ℕ) → In n k → f k ≡ true → ((k' : ℕ) → In n k' → k' < k → f k' ≡ false) → Smallest n f (some k)
  no-least : ((k : ℕ) → In n k → f k ≡ false) → Smallest n f none

pub smallest-is : (n : ℕ) (f : ℕ → Bool) → Smallest n f (smallest n f)
smallest-is n f = go (first_from n 1 f) (first-from n 1 f)
  where
    go : (o : Option ℕ) → First n 1 f o → Smallest n f o
    go _ (first-at k l u t h) = least k (record { low = l; high = omega arith }) t (λ k' r u'. h k' r.low u')
    go _ (first-none h) = no-least (λ k r. h k r.low (omega arith))
