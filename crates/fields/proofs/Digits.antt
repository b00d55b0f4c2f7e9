-- A number's digits are read back as the number, and a word read as a number is its digits.
-- Assumes nothing.
use Prim.Native.Nat.{ℕ, zero, suc, ◌+◌, ◌-◌, ◌*◌, ◌/◌, ◌%◌, ◌≤◌, ◌<◌}
use mathlib.Core.Path.{◌≡◌, refl, sym, ap, ◌∙◌}
use mathlib.Core.Logic.{◌⊎◌, inl, inr, ⊎_elim}
use mathlib.Core.Bool.{true, false, not, false≢true}
use mathlib.Core.Option.{some}
use mathlib.Core.List.{List, [], ◌∷◌, ◌++◌, append_assoc, append-nil}
use native.Mathlib.Omega.{arith}
use lib.ListN.{length, length-append}
use lib.Dec.{leb, eqb}
use borrow.Author.Tests.{leb-true, eqb-false, lt-ltb, le-ltb, le-leb, ne_eqb, not-true}
use Rattle.meaning.specs.Numbers.{◌&◌}
use Rattle.fields.specs.Number.{digits, digits_of, digit?, value, leads, number_of}
use Rattle.meaning.proofs.Numbers.{order}
use Rattle.meaning.proofs.Booleans.{true-or-false, and_left, and_right, and_intro}

-- ---- the digits

pub one-or-more : (v : ℕ) → (v < 10) ⊎ (10 ≤ v)
one-or-more v = ⊎_elim inr inl (order 10 v)

pub digits-small : (k v : ℕ) → v < 10 → digits k v ≡ (48 + v) ∷ []
unfolding digits
digits-small zero v h = refl
digits-small (suc k) v h = rw (lt-ltb v 10 h, digits)

pub digits-large : (k v : ℕ) → 10 ≤ v → digits (suc k) v ≡ digits k (v / 10) ++ (48 + v % 10) ∷ []
unfolding digits
digits-large k v h = rw (le-ltb v 10 h, digits)

pub digits-fuel : (k j v : ℕ) → v ≤ k → v ≤ j → digits k v ≡ digits j v
digits-fuel zero j v h g = digits-small zero v (omega arith) ∙ sym (digits-small j v (omega arith))
digits-fuel (suc k) zero v h g = digits-small (suc k) v (omega arith) ∙ sym (digits-small zero v (omega arith))
digits-fuel (suc k) (suc j) v h g = go (one-or-more v) (λ a b. digits-fuel k j (v / 10) a b)
  where
    go : (v < 10) ⊎ (10 ≤ v) → (v / 10 ≤ k → v / 10 ≤ j → digits k (v / 10) ≡ digits j (v / 10)) → digits (suc k) v ≡ digits (suc j) v
    go (inl l) ih = digits-small (suc k) v l ∙ sym (digits-small (suc j) v l)
    go (inr l) ih =
        digits-large k v l ∙ ap (λ w. w ++ (48 + v % 10) ∷ []) (ih (omega arith) (omega arith)) ∙ sym (digits-large j v l)

pub digits-snoc : (v d : ℕ) → 1 ≤ v → d < 10 → digits_of (v * 10 + d) ≡ digits_of v ++ (48 + d) ∷ []
unfolding digits_of
digits-snoc v d p q =
    digits-fuel (v * 10 + d) (suc (v * 10 + d)) (v * 10 + d) (omega arith) (omega arith)
    ∙ digits-large (v * 10 + d) (v * 10 + d) (omega arith)
    ∙ step ((v * 10 + d) / 10) ((v * 10 + d) % 10) (omega arith) (omega arith)
  where
    step : (a b : ℕ) → a ≡ v → b ≡ d → digits (v * 10 + d) a ++ (48 + b) ∷ [] ≡ digits v v ++ (48 + d) ∷ []
    step a b e f = rw (e, f, digits-fuel (v * 10 + d) v v (omega arith) (omega arith))

-- ---- reading them

pub digit-in : (b : ℕ) → 48 ≤ b → b ≤ 57 → digit? b ≡ true
unfolding digit?
digit-in b h g = and_intro (le-leb 48 b h) (le-leb b 57 g)

pub digit_low : (b : ℕ) → digit? b ≡ true → 48 ≤ b
unfolding digit?
digit_low b h = leb-true 48 b (and_left (leb 48 b) (leb b 57) h)

pub digit-high : (b : ℕ) → digit? b ≡ true → b ≤ 57
unfolding digit?
digit-high b h = leb-true b 57 (and_right (leb 48 b) (leb b 57) h)

pub value-cons : (v d : ℕ) (w : List ℕ) → d < 10 → value v ((48 + d) ∷ w) ≡ value (v * 10 + d) w
unfolding value
value-cons v d w h =
    rw (digit-in (48 + d) (omega arith) (omega arith), value)
    (ap (λ x. value x w) (omega arith))

value-after-digits : (k v : ℕ) (r : List ℕ) → v ≤ k → value 0 (digits k v ++ r) ≡ value v r
value-after-digits zero v r h = rw (digits-small zero v (omega arith)) (value-cons 0 v r (omega arith) ∙ ap (λ x. value x r) (omega arith))
value-after-digits (suc k) v r h = go (one-or-more v) (λ a. value-after-digits k (v / 10) ((48 + v % 10) ∷ r) a)
  where
    go : (v < 10) ⊎ (10 ≤ v)
        → (v / 10 ≤ k → value 0 (digits k (v / 10) ++ (48 + v % 10) ∷ r) ≡ value (v / 10) ((48 + v % 10) ∷ r))
        → value 0 (digits (suc k) v ++ r) ≡ value v r
    go (inl l) ih = rw (digits-small (suc k) v l) (value-cons 0 v r l ∙ ap (λ x. value x r) (omega arith))
    go (inr l) ih =
        rw (digits-large k v l, append_assoc)
        (ih (omega arith) ∙ value-cons (v / 10) (v % 10) r (omega arith) ∙ ap (λ x. value x r) (omega arith))

pub value-digits : (v : ℕ) → value 0 (digits_of v) ≡ some v
unfolding digits_of value
value-digits v = ap (λ w. value 0 w) (sym (append-nil (digits v v))) ∙ value-after-digits v v [] (omega arith)

pub leads-other : (b : ℕ) (w : List ℕ) → (b ≡ 48 → ⊥) → leads (b ∷ w) ≡ true
unfolding leads
leads-other b [] h = refl
leads-other b (c ∷ w) h = ap not (ne_eqb b 48 h)

-- a list that begins with a byte which is not the digit 0
pub data Opens : List ℕ → Type 0 where
  opens : (b : ℕ) (w : List ℕ) → (b ≡ 48 → ⊥) → Opens (b ∷ w)

opening-leads : (w : List ℕ) → Opens w → leads w ≡ true
opening-leads _ (opens b w h) = leads-other b w h

opens-append : (w r : List ℕ) → Opens w → Opens (w ++ r)
opens-append _ r (opens b w h) = opens b (w ++ r) h

digits-open : (k v : ℕ) → 1 ≤ v → v ≤ k → Opens (digits k v)
digits-open zero v h g = absurd (omega arith)
digits-open (suc k) v h g = go (one-or-more v) (λ a b. digits-open k (v / 10) a b)
  where
    go : (v < 10) ⊎ (10 ≤ v) → (1 ≤ v / 10 → v / 10 ≤ k → Opens (digits k (v / 10))) → Opens (digits (suc k) v)
    go (inl l) ih = rw (digits-small (suc k) v l) (opens (48 + v) [] (λ e. omega arith))
    go (inr l) ih = rw (digits-large k v l) (opens-append (digits k (v / 10)) _ (ih (omega arith) (omega arith)))

pub digits-lead : (v : ℕ) → leads (digits_of v) ≡ true
unfolding digits_of leads
digits-lead v = ⊎_elim
    (λ (l : v < 10). rw (digits-small v v l))
    (λ (l : 10 ≤ v). opening-leads (digits v v) (digits-open v v (omega arith) (omega arith)))
    (one-or-more v)

-- ---- how many

-- 1 and k zeros
unfoldable pub ten_to : ℕ → ℕ
ten_to zero = 1
ten_to (suc k) = 10 * ten_to k

pub digits-at-most : (k v : ℕ) → v < ten_to (suc k) → length (digits_of v) ≤ suc k
unfolding ten_to digits_of
digits-at-most zero v h = rw (digits-small v v (omega arith)) (omega arith)
digits-at-most (suc k) v h = ⊎_elim
    (λ (l : v < 10). rw (digits-small v v l) (omega arith))
    (λ (l : 10 ≤ v).
    rw (digits-fuel v (suc v) v (omega arith) (omega arith), digits-large v v l, length-append, digits-fuel v (v / 10) (v / 10) (omega arith) (omega arith))
    (omega (arith, digits-at-most k (v / 10) (omega arith))))
    (one-or-more v)

pub three-digits : (v : ℕ) → v < 1000 → length (digits_of v) ≤ 3
unfolding ten_to
three-digits v h = digits-at-most 2 v h

pub five-digits : (v : ℕ) → v < 100000 → length (digits_of v) ≤ 5
unfolding ten_to
five-digits v h = digits-at-most 4 v h

-- ---- a number read back from its digits, and the digits from the number

pub digits-read : (v : ℕ) → v < 100000 → number_of (digits_of v) ≡ some v
unfolding number_of
digits-read v h = rw (and_intro (digits-lead v) (le-leb (length (digits_of v)) 5 (five-digits v h)), number_of) (value-digits v)

value-back : (w : List ℕ) (v u : ℕ) → 1 ≤ v → value v w ≡ some u → digits_of u ≡ digits_of v ++ w
unfolding value
value-back [] v u h e = rw append-nil (ap digits_of (cc))
value-back (b ∷ w) v u h e = go (true-or-false (digit? b)) (λ g f. value-back w (v * 10 + (b - 48)) u g f)
  where
    go : (digit? b ≡ true) ⊎ (digit? b ≡ false)
        → (1 ≤ v * 10 + (b - 48) → value (v * 10 + (b - 48)) w ≡ some u → digits_of u ≡ digits_of (v * 10 + (b - 48)) ++ w)
        → digits_of u ≡ digits_of v ++ b ∷ w
    go (inl t) ih =
        ih (omega arith) (rw (t, value) at e)
        ∙ ap (λ x. x ++ w) (digits-snoc v (b - 48) h (omega (arith, digit-high b t)))
        ∙ append_assoc (digits_of v) ((48 + (b - 48)) ∷ []) w
        ∙ ap (λ x. digits_of v ++ x ∷ w) (omega (arith, digit_low b t))
    go (inr f) ih = let z : ◌≡◌ {A = ℕ} 0 1 = cc (rw (f, value) at e) in absurd (omega arith)

number-one : (w : List ℕ) (u : ℕ) → leads w ≡ true → value 0 w ≡ some u → digits_of u ≡ w
unfolding value leads digits_of
number-one [] u h e = absurd (false≢true h)
number-one (b ∷ []) u h e = go (true-or-false (digit? b))
  where
    go : (digit? b ≡ true) ⊎ (digit? b ≡ false) → digits u u ≡ b ∷ []
    go (inl t) =
        let q : some (0 * 10 + (b - 48)) ≡ some u = rw (t, value) at e in
        let q' : 0 * 10 + (b - 48) ≡ u = cc in
        digits-small u u (omega (arith, digit-high b t)) ∙ ap (λ x. x ∷ []) (omega (arith, digit_low b t))
    go (inr f) = let z : ◌≡◌ {A = ℕ} 0 1 = cc (rw (f, value) at e) in absurd (omega arith)
number-one (b ∷ c ∷ w) u h e = go (true-or-false (digit? b))
  where
    nz : b ≡ 48 → ⊥
    nz = eqb-false b 48 (not-true (eqb b 48) h)

    go : (digit? b ≡ true) ⊎ (digit? b ≡ false) → digits u u ≡ b ∷ c ∷ w
    go (inl t) =
        value-back (c ∷ w) (0 * 10 + (b - 48)) u (omega (arith, nz, digit_low b t)) (rw (t, value) at e)
        ∙ ap (λ x. x ++ c ∷ w) (digits-small (0 * 10 + (b - 48)) (0 * 10 + (b - 48)) (omega (arith, digit-high b t)))
        ∙ ap (λ x. x ∷ c ∷ w) (omega (arith, digit_low b t))
    go (inr f) = let z : ◌≡◌ {A = ℕ} 0 1 = cc (rw (f, value) at e) in absurd (omega arith)

pub read-digits : (w : List ℕ) (u : ℕ) → number_of w ≡ some u → digits_of u ≡ w
unfolding number_of
read-digits w u e = go (true-or-false (leads w & leb (length w) 5))
  where
    go : ((leads w & leb (length w) 5) ≡ true) ⊎ ((leads w & leb (length w) 5) ≡ false) → digits_of u ≡ w
    go (inl t) = number-one w u (and_left (leads w) (leb (length w) 5) t) (rw (t, number_of) at e)
    go (inr f) = let z : ◌≡◌ {A = ℕ} 0 1 = cc (rw (f, number_of) at e) in absurd (omega arith)
