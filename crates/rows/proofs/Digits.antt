-- The bit operations on a row, read on its marks. Assumes nothing.
use Prim.Native.Nat.{ℕ, zero, suc, ◌+◌, ◌-◌, ◌*◌, ◌/◌, ◌%◌, ◌^◌, max, ◌<◌, ◌≤◌}
use mathlib.Core.Path.{◌≡◌, refl, ap, ap₂, sym, ◌∙◌}
use mathlib.Core.Logic.{◌⊎◌, inl, inr, ⊎_elim}
use mathlib.Core.Bool.{Bool, true, false, not}
use mathlib.Core.List.{List, [], ◌∷◌}
use native.Mathlib.Nat.{not-suc-le-zero, le_of_suc-le-suc, div-one, pow-suc}
use native.Mathlib.Numerals.{one-add}
use native.Mathlib.Omega.{arith}
use borrow.Author.Tests.{eq-eqb}
use lib.Dec.{eqb, leb, leb-zero, leb-suc-zero, leb-suc-suc}
use lib.Pow.{shr-shr, pow_pos}
use lib.Bits.{bit_or, or_step, or_zero_r}
use lib.Count.{count_trailing_zeros, under, ones, ones_step, ones-le}
use lib.ListN.{length, get_or, set}
use Rattle.rows.specs.Marks.{lowest, row_of}
use Rattle.rows.specs.Left.{first_without, count_marks}

-- a binary digit is 0 or 1
digit : (n : ℕ) → (n % 2 ≡ 0) ⊎ (n % 2 ≡ 1)
digit n = two (n % 2) (omega arith)
  where
    two : (d : ℕ) → d < 2 → (d ≡ 0) ⊎ (d ≡ 1)
    two zero h = inl refl
    two (suc zero) h = inr refl
    two (suc (suc d)) h = absurd (omega arith)

pub lowest-length : (k n : ℕ) → length (lowest k n) ≡ k
unfolding lowest
lowest-length zero n = refl
lowest-length (suc k) n = ap suc (lowest-length k (n / 2))

-- the mark at p is digit p
pub lowest-at : (k p n : ℕ) → p < k → get_or (lowest k n) p false ≡ eqb (n / 2 ^ p % 2) 1
unfolding lowest
lowest-at zero p n h = absurd (not-suc-le-zero h)
lowest-at (suc k) zero n h = rw div-one
lowest-at (suc k) (suc p) n h =
    lowest-at k p (n / 2) (le_of_suc-le-suc h)
    ∙ ap (λ (x : ℕ). eqb (x % 2) 1) (shr-shr n 1 p ∙ ap (λ (j : ℕ). n / 2 ^ j) (one-add p))

-- ---- there and back

pub row-of-lowest : (k n : ℕ) → n < 2 ^ k → row_of (lowest k n) ≡ n
unfolding lowest row_of
row-of-lowest zero n h = omega arith
row-of-lowest (suc k) n h =
    let q : 2 ^ suc k ≡ 2 ^ k * 2 = pow-suc 2 k in
    let ih : row_of (lowest k (n / 2)) ≡ n / 2 = row-of-lowest k (n / 2) (omega arith) in
    ⊎_elim (λ e. rw e (omega arith)) (λ e. rw e (omega arith)) (digit n)

pub lowest-of-row : (bs : List Bool) → lowest (length bs) (row_of bs) ≡ bs
unfolding lowest row_of
lowest-of-row [] = refl
lowest-of-row (true ∷ bs) =
    let lo : (row_of bs * 2 + 1) % 2 ≡ 1 = omega arith in
    let hi : (row_of bs * 2 + 1) / 2 ≡ row_of bs = omega arith in
    rw (lo, hi) (ap (λ (l : List Bool). true ∷ l) (lowest-of-row bs))
lowest-of-row (false ∷ bs) =
    let lo : (row_of bs * 2) % 2 ≡ 0 = omega arith in
    let hi : (row_of bs * 2) / 2 ≡ row_of bs = omega arith in
    rw (lo, hi) (ap (λ (l : List Bool). false ∷ l) (lowest-of-row bs))

pub row_below : (bs : List Bool) → row_of bs < 2 ^ length bs
unfolding row_of
row_below [] = omega arith
row_below (true ∷ bs) = omega (arith, row_below bs, pow-suc 2 (length bs))
row_below (false ∷ bs) = omega (arith, row_below bs, pow-suc 2 (length bs))

-- ---- what each bit operation does

-- or with 2 ^ p marks p
pub lowest-or : (k p n : ℕ) → p < k → lowest k (bit_or n (2 ^ p)) ≡ set (lowest k n) p true
unfolding lowest
lowest-or zero p n h = absurd (not-suc-le-zero h)
lowest-or (suc k) zero n h =
    let m : max (n % 2) 1 ≡ 1 = ⊎_elim (λ e. rw e) (λ e. rw e) (digit n) in
    let e : bit_or n 1 ≡ n / 2 * 2 + 1 = or_step n 1 ∙ ap₂ (λ (x y : ℕ). x * 2 + y) (or_zero_r (n / 2)) m in
    ap₂ (λ (b : Bool) (x : ℕ). b ∷ lowest k x) (eq-eqb (bit_or n 1 % 2) 1 (rw e (omega arith))) (rw e (omega arith))
lowest-or (suc k) (suc p) n h =
    let q : 2 ^ suc p ≡ 2 ^ p * 2 = pow-suc 2 p in
    let half : 2 ^ suc p / 2 ≡ 2 ^ p = omega arith in
    let even : 2 ^ suc p % 2 ≡ 0 = omega arith in
    let m : max (n % 2) 0 ≡ n % 2 = ⊎_elim (λ e. rw e) (λ e. rw e) (digit n) in
    let e : bit_or n (2 ^ suc p) ≡ bit_or (n / 2) (2 ^ p) * 2 + n % 2 =
    or_step n (2 ^ suc p) ∙ ap₂ (λ (x y : ℕ). bit_or (n / 2) x * 2 + max (n % 2) y) half even
    ∙ ap (λ (y : ℕ). bit_or (n / 2) (2 ^ p) * 2 + y) m in
    let lo : bit_or n (2 ^ suc p) % 2 ≡ n % 2 = rw e (omega arith) in
    let hi : bit_or n (2 ^ suc p) / 2 ≡ bit_or (n / 2) (2 ^ p) = rw e (omega arith) in
    ap₂ (λ (d x : ℕ). eqb d 1 ∷ lowest k x) lo hi
    ∙ ap (λ (r : List Bool). eqb (n % 2) 1 ∷ r) (lowest-or k p (n / 2) (le_of_suc-le-suc h))

-- the trailing zeros of the complement lead to the first place without a mark
pub trailing-first : (k n : ℕ) → n < 2 ^ k → count_trailing_zeros k ((2 ^ k - 1) - n) ≡ first_without (lowest k n)
unfolding lowest first_without count_trailing_zeros
trailing-first zero n h = refl
trailing-first (suc k) n h =
    let q : 2 ^ suc k ≡ 2 ^ k * 2 = pow-suc 2 k in
    let lo : (2 ^ suc k - 1 - n) % 2 ≡ 1 - n % 2 = omega arith in
    let hi : (2 ^ suc k - 1 - n) / 2 ≡ 2 ^ k - 1 - n / 2 = omega arith in
    let last : under (1 - n % 2) (first_without (lowest k (n / 2))) ≡ first_without (eqb (n % 2) 1 ∷ lowest k (n / 2)) =
    ⊎_elim (λ e. rw e) (λ e. rw e) (digit n) in
    ap₂ under lo (ap (count_trailing_zeros k) hi ∙ trailing-first k (n / 2) (omega arith)) ∙ last

-- the ones are the marks
pub ones-count : (k n : ℕ) → n < 2 ^ k → ones n ≡ count_marks (lowest k n)
unfolding lowest count_marks
ones-count zero n h = omega (arith, ones-le 0 n h)
ones-count (suc k) n h =
    let q : 2 ^ suc k ≡ 2 ^ k * 2 = pow-suc 2 k in
    let last : n % 2 + count_marks (lowest k (n / 2)) ≡ count_marks (eqb (n % 2) 1 ∷ lowest k (n / 2)) =
    ⊎_elim (λ e. rw e (omega arith)) (λ e. rw e (omega arith)) (digit n) in
    ones_step n ∙ ap (λ (x : ℕ). n % 2 + x) (ones-count k (n / 2) (omega arith)) ∙ last

-- 2 ^ k - 2 ^ l has the digits from l on
pub lowest-from : (k l p : ℕ) → l ≤ k → p < k → get_or (lowest k (2 ^ k - 2 ^ l)) p false ≡ leb l p
unfolding lowest
lowest-from zero l p h j = absurd (not-suc-le-zero j)
lowest-from (suc k) zero zero h j =
    let q : 2 ^ suc k ≡ 2 ^ k * 2 = pow-suc 2 k in
    let o : 0 < 2 ^ k = pow_pos k in
    eq-eqb ((2 ^ suc k - 1) % 2) 1 (omega arith)
lowest-from (suc k) zero (suc p) h j =
    let q : 2 ^ suc k ≡ 2 ^ k * 2 = pow-suc 2 k in
    let o : 0 < 2 ^ k = pow_pos k in
    let hi : (2 ^ suc k - 1) / 2 ≡ 2 ^ k - 1 = omega arith in
    rw hi (lowest-from k zero p (omega arith) (le_of_suc-le-suc j) ∙ leb-zero p ∙ sym (leb-zero (suc p)))
lowest-from (suc k) (suc l) zero h j =
    let q : 2 ^ suc k ≡ 2 ^ k * 2 = pow-suc 2 k in
    let r : 2 ^ suc l ≡ 2 ^ l * 2 = pow-suc 2 l in
    let lo : (2 ^ suc k - 2 ^ suc l) % 2 ≡ 0 = omega arith in
    rw lo (sym (leb-suc-zero l))
lowest-from (suc k) (suc l) (suc p) h j =
    let q : 2 ^ suc k ≡ 2 ^ k * 2 = pow-suc 2 k in
    let r : 2 ^ suc l ≡ 2 ^ l * 2 = pow-suc 2 l in
    let hi : (2 ^ suc k - 2 ^ suc l) / 2 ≡ 2 ^ k - 2 ^ l = omega arith in
    rw hi (lowest-from k l p (le_of_suc-le-suc h) (le_of_suc-le-suc j) ∙ sym (leb-suc-suc l p))

-- the digits of the complement are the other ones
pub lowest-complement : (k n p : ℕ) → n < 2 ^ k → p < k → get_or (lowest k (2 ^ k - 1 - n)) p false ≡ not (get_or (lowest k n) p false)
unfolding lowest
lowest-complement zero n p h l = absurd (not-suc-le-zero l)
lowest-complement (suc k) n zero h l =
    let q : 2 ^ suc k ≡ 2 ^ k * 2 = pow-suc 2 k in
    let lo : (2 ^ suc k - 1 - n) % 2 ≡ 1 - n % 2 = omega arith in
    rw lo (⊎_elim (λ e. rw e) (λ e. rw e) (digit n))
lowest-complement (suc k) n (suc p) h l =
    let q : 2 ^ suc k ≡ 2 ^ k * 2 = pow-suc 2 k in
    let hi : (2 ^ suc k - 1 - n) / 2 ≡ 2 ^ k - 1 - n / 2 = omega arith in
    rw hi (lowest-complement k (n / 2) p (omega arith) (le_of_suc-le-suc l))
