-- Bytes put one after the other.
-- Assumes nothing.
use Prim.Native.Nat.{ℕ, zero, suc, ◌+◌, ◌*◌, ◌/◌, ◌%◌, ◌≤◌, ◌<◌}
use mathlib.Core.Path.{◌≡◌, refl, sym, ap, ap₂, ◌∙◌, subst}
use mathlib.Core.Bool.{true, false}
use mathlib.Core.Logic.{⊎_elim}
use mathlib.Core.List.{List, [], ◌∷◌, ◌++◌, append_assoc}
use native.Mathlib.Omega.{arith}
use native.Mathlib.Nat.{add-zero}
use lib.ListN.{length, take, drop, set, length-append}
use lib.Seq.{sets, sets-eq, length-sets, drop-drop}
use lib.Dec.{ltb}
use borrow.Author.Tests.{lt-ltb}
use borrow.Rule.Slice.PartMut.{put_mid}
use Rattle.fields.specs.Number.{digits_of, last_digit}
use Rattle.fields.specs.Leaves.{Put}
use Rattle.meaning.proofs.Numbers.{order}
use Rattle.fields.proofs.Digits.{one-or-more, digits-small, digits-snoc}

pub sets-append : (t : List ℕ) (i : ℕ) (vs ws : List ℕ) → sets t i (vs ++ ws) ≡ sets (sets t i vs) (i + length vs) ws
sets-append t i [] ws = rw add-zero
sets-append t i (x ∷ vs) ws = let n : i + suc (length vs) ≡ suc i + length vs = omega arith in rw n (sets-append (set t i x) (suc i) vs ws)

pub put_then : {a b c : List ℕ} {at p r : ℕ} {x y : List ℕ} → Put a b at x p → Put b c p y r → Put a c at (x ++ y) r
put_then {a} {b} {c} {at} {p} {r} {x} {y} P Q =
    record {
      cells = Q.cells ∙ ap₂ (λ z k. sets z k y) P.cells P.next ∙ sym (sets-append a at x y);
      next = rw length-append (omega (arith, P.next, Q.next));
    }

pub put-length : {a b : List ℕ} {at p : ℕ} {x : List ℕ} → Put a b at x p → length b ≡ length a
put-length {a} {b} {at} {p} {x} P = ap length P.cells ∙ length-sets a at x

pub put_as : {a b : List ℕ} {at p : ℕ} {x y : List ℕ} → x ≡ y → Put a b at x p → Put a b at y p
put_as {a} {b} {at} {p} e P = subst (λ z. Put a b at z p) e P

-- ---- a word

-- after a copy into the part from a on: k is how long that part is
pub put_copied : (xs w : List ℕ) (a k : ℕ) {ys : List ℕ} → ys ≡ w → k ≡ length w → a + length w ≤ length xs → Put xs (put_mid a k xs ys) a w (a + length w)
put_copied xs w a k e n h =
    record {
      cells = ap₂ (λ y r. take a xs ++ (y ++ r)) e (drop-drop k a xs ∙ ap (λ m. drop (a + m) xs) n) ∙ sym (append_assoc (take a xs) w (drop (a + length w) xs)) ∙ sym (sets-eq w xs a h);
      next = refl;
    }

-- ---- digits

pub digits-one : (v : ℕ) → v < 10 → digits_of v ≡ (48 + v) ∷ []
unfolding digits_of
digits-one v h = digits-small v v h

pub digits-split : (v : ℕ) → 10 ≤ v → digits_of v ≡ digits_of (v / 10) ++ (48 + v % 10) ∷ []
digits-split v h =
    let e : v / 10 * 10 + v % 10 ≡ v = omega arith in
    ap digits_of (sym e) ∙ digits-snoc (v / 10) (v % 10) (omega arith) (omega arith)

pub one-digit : (v : ℕ) → v < 10 → length (digits_of v) ≡ 1
one-digit v h = ap length (digits-one v h)

pub last-there : (q : ℕ) → 0 < q → last_digit q ≡ (48 + q % 10) ∷ []
unfolding last_digit
last-there q h = rw (lt-ltb 0 q h, last_digit)

pub last-none : (q : ℕ) → q ≡ 0 → last_digit q ≡ []
unfolding last_digit
last-none zero e = refl
last-none (suc q) e = absurd (omega arith)

-- what stands before the last digit of a number whose tenth part is q
front : ℕ → List ℕ
front q = elim (ltb 0 q) [ true ↦ digits_of q | false ↦ [] ]

front-none : (q : ℕ) → q ≡ 0 → front q ≡ []
unfolding front
front-none zero e = refl
front-none (suc q) e = absurd (omega arith)

front-there : (q : ℕ) → 0 < q → front q ≡ digits_of q
unfolding front
front-there q h = rw (lt-ltb 0 q h, front)

digits-front : (v : ℕ) → digits_of v ≡ front (v / 10) ++ (48 + v % 10) ∷ []
digits-front v = ⊎_elim
    (λ (h : v < 10). let e : v % 10 ≡ v = omega arith in let z : v / 10 ≡ 0 = omega arith in rw (front-none (v / 10) z, e) (digits-one v h))
    (λ (h : 10 ≤ v). rw (front-there (v / 10) (omega arith)) (digits-split v h))
    (one-or-more v)

front-more : (q : ℕ) → front q ≡ front (q / 10) ++ last_digit q
front-more q = ⊎_elim
    (λ (h : q ≤ 0). let e : q ≡ 0 = omega arith in let z : q / 10 ≡ 0 = omega arith in rw (front-none q e, front-none (q / 10) z, last-none q e) refl)
    (λ (h : 0 < q). rw (front-there q h, last-there q h) (digits-front q))
    (order q 0)

-- a number's digits are the last ones of its parts, and then its own
pub digits-parts : (v : ℕ) → v < 65536 → digits_of v ≡ (((last_digit (v / 10000) ++ last_digit (v / 1000)) ++ last_digit (v / 100)) ++ last_digit (v / 10)) ++ (48 + v % 10) ∷ []
digits-parts v h =
    let a : v / 10 / 10 ≡ v / 100 = omega arith in
    let b : v / 100 / 10 ≡ v / 1000 = omega arith in
    let c : v / 1000 / 10 ≡ v / 10000 = omega arith in
    let z : v / 10000 / 10 ≡ 0 = omega arith in
    digits-front v ∙ ap (λ l. l ++ (48 + v % 10) ∷ [])
    (front-more (v / 10) ∙ ap (λ l. l ++ last_digit (v / 10))
    (ap front a ∙ front-more (v / 100) ∙ ap (λ l. l ++ last_digit (v / 100))
    (ap front b ∙ front-more (v / 1000) ∙ ap (λ l. l ++ last_digit (v / 1000))
    (ap front c ∙ front-more (v / 10000) ∙ ap (λ l. l ++ last_digit (v / 10000)) (front-none _ z)))))
