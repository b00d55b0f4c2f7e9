-- One law for each way that a leaf can go from the front of a text.
-- Assumes nothing.
use Prim.Native.Nat.{ℕ, zero, suc, ◌+◌, ◌*◌, ◌-◌, ◌≤◌, ◌<◌}
use mathlib.Core.Path.{◌≡◌, refl, ap, ◌∙◌}
use mathlib.Core.Logic.{◌⊎◌, inl, inr, ⊎_elim}
use mathlib.Core.Bool.{Bool, true, false, not, cond, ◌||◌}
use mathlib.Core.Option.{none, some}
use mathlib.Core.List.{List, [], ◌∷◌}
use native.Mathlib.Omega.{arith}
use native.Mathlib.Numerals.{add-one}
use lib.ListN.{length, get_or, take, drop, drop_of_length-le}
use lib.Seq.{drop-cons}
use lib.Dec.{leb, ltb, eqb}
use borrow.Author.Tests.{le-leb, lt-leb, ltb-false, ne_eqb, not-true, not-false}
use lib.Pointwise.{pointwise}
use Rattle.std.specs.Prelude.{nat_eq, Some, None}
use Rattle.std.specs.Option.{unwrap_or}
use Rattle.std.specs.List.{position, position_or_len}
use Rattle.std.proofs.lemmas.List.Sums.{prefix_len-le-length}
use Rattle.meaning.specs.Numbers.{◌&◌}
use Rattle.fields.specs.Bytes.{stop?, word_of, rest_of, same}
use Rattle.fields.specs.Number.{digit?, value, leads, number_of}
use Rattle.fields.specs.Reader.{got, refusal, first, keyword, figure, number, unless}
use Rattle.meaning.proofs.Booleans.{true-or-false}
use Rattle.fields.proofs.Digits.{ten_to, digit-in}
use Rattle.fields.proofs.Steps.{unless-there, unless_not}

pub and-false : (a : Bool) → (a & false) ≡ false
unfolding ◌&◌
and-false true = refl
and-false false = refl

pub byte-drop : (s : List ℕ) (i : ℕ) → i < length s → drop i s ≡ get_or s i 0 ∷ drop (i + 1) s
byte-drop s i h = rw (add-one, drop-cons s i 0)

-- ---- where a word ends

abbrev pub ends? : ℕ → Bool
ends? b = eqb b 9 || eqb b 10

ends-stop : (b : ℕ) → ends? b ≡ stop? b
unfolding stop?
ends-stop b = ⊎_elim (λ (t : eqb b 9 ≡ true). rw (t, stop?)) (λ (f : eqb b 9 ≡ false). rw (f, stop?)) (true-or-false (eqb b 9))

or-length : (n l : ℕ) → n ≤ l → unwrap_or (cond (ltb n l) (Some n) None) l ≡ n
or-length n l h = ⊎_elim
    (λ (t : ltb n l ≡ true). rw t)
    (λ (f : ltb n l ≡ false). rw f (omega (arith, ltb-false n l f)))
    (true-or-false (ltb n l))

pub end-found : (q : List ℕ) → unwrap_or (position ends? q) (length q) ≡ position_or_len ends? q
end-found q = or-length (position_or_len ends? q) (length q) (prefix_len-le-length (λ b. not (ends? b)) q)

take-more : (n b : ℕ) (q : List ℕ) → take (1 + n) (b ∷ q) ≡ b ∷ take n q
take-more n b q = let e : 1 + n ≡ suc n = omega arith in rw e

drop-more : (n b : ℕ) (q : List ℕ) → drop (1 + n) (b ∷ q) ≡ drop n q
drop-more n b q = let e : 1 + n ≡ suc n = omega arith in rw e

pub word-cut : (q : List ℕ) → take (position_or_len ends? q) q ≡ word_of q
unfolding word_of
word-cut [] = refl
word-cut (b ∷ q) = ⊎_elim
    (λ (t : stop? b ≡ true). let e : ends? b ≡ true = ends-stop b ∙ t in rw (e, t, word_of))
    (λ (f : stop? b ≡ false). let e : ends? b ≡ false = ends-stop b ∙ f in rw (e, f, word_of) (take-more (position_or_len ends? q) b q ∙ ap (λ z. b ∷ z) (word-cut q)))
    (true-or-false (stop? b))

pub rest-cut : (q : List ℕ) → drop (position_or_len ends? q) q ≡ rest_of q
unfolding rest_of
rest-cut [] = refl
rest-cut (b ∷ q) = ⊎_elim
    (λ (t : stop? b ≡ true). let e : ends? b ≡ true = ends-stop b ∙ t in rw (e, t, rest_of))
    (λ (f : stop? b ≡ false). let e : ends? b ≡ false = ends-stop b ∙ f in rw (e, f, rest_of) (drop-more (position_or_len ends? q) b q ∙ rest-cut q))
    (true-or-false (stop? b))

-- ---- the value of digits

pub ten_to-small : (k : ℕ) → k ≤ 4 → ten_to k ≤ 10000
unfolding ten_to
ten_to-small zero h = omega arith
ten_to-small (suc zero) h = omega arith
ten_to-small (suc (suc zero)) h = omega arith
ten_to-small (suc (suc (suc zero))) h = omega arith
ten_to-small (suc (suc (suc (suc zero)))) h = omega arith
ten_to-small (suc (suc (suc (suc (suc k))))) h = absurd (omega arith)

pub value-start : 0 < ten_to 0
unfolding ten_to
value-start = omega arith

pub value_grows : (i v d : ℕ) → v < ten_to i → d < 10 → v * 10 + d < ten_to (i + 1)
unfolding ten_to
value_grows i v d g e = rw add-one (omega arith)

not_digit : (b : ℕ) → (b < 48) ⊎ (57 < b) → digit? b ≡ false
unfolding digit? ◌&◌
not_digit b (inl h) = rw (lt-leb 48 b h)
not_digit b (inr h) = rw (lt-leb b 57 h, and-false (leb 48 b))

module _ (w : List ℕ) (v i : ℕ) where
  pub value-digit : i < length w → 48 ≤ get_or w i 0 → get_or w i 0 ≤ 57 → value v (drop i w) ≡ value (v * 10 + (get_or w i 0 - 48)) (drop (i + 1) w)
  unfolding value
  value-digit h lo hi = rw (byte-drop w i h) (rw (digit-in (get_or w i 0) lo hi, value))

  pub value-other : i < length w → (get_or w i 0 < 48) ⊎ (57 < get_or w i 0) → value v (drop i w) ≡ none
  unfolding value
  value-other h o = rw (byte-drop w i h) (rw (not_digit (get_or w i 0) o, value))

  pub value-all : length w ≤ i → value v (drop i w) ≡ some v
  unfolding value
  value-all h = rw (drop_of_length-le w h)

-- ---- a word as a number

pub number-empty : (w : List ℕ) → length w ≡ 0 → number_of w ≡ none
unfolding number_of leads ◌&◌
number-empty [] h = refl
number-empty (b ∷ w) h = absurd (omega arith)

pub number-long : (w : List ℕ) → 5 < length w → number_of w ≡ none
unfolding number_of
number-long w h = rw (lt-leb (length w) 5 h, and-false (leads w), number_of)

pub number-zero : (w : List ℕ) → 1 < length w → get_or w 0 0 ≡ 48 → number_of w ≡ none
unfolding number_of leads ◌&◌
number-zero [] h e = absurd (omega arith)
number-zero (b ∷ []) h e = absurd (omega arith)
number-zero (b ∷ c ∷ w) h e = rw e

pub number_digits : (w : List ℕ) → 0 < length w → length w ≤ 5 → (length w ≤ 1) ⊎ (get_or w 0 0 ≡ 48 → ⊥) → number_of w ≡ value 0 w
unfolding number_of leads ◌&◌
number_digits [] h f o = absurd (omega arith)
number_digits (b ∷ []) h f o = refl
number_digits (b ∷ c ∷ w) h f (inl l) = absurd (omega arith)
number_digits (b ∷ c ∷ w) h f (inr n) = rw (ne_eqb b 48 n, le-leb (length (b ∷ c ∷ w)) 5 f, number_of)

-- ---- a byte, and what begins with it

module _ (k : ℕ) (q : List ℕ) where
  module _ (lo hi : ℕ) where
    pub number-outside : {v : ℕ} {r : List ℕ} → figure k q ≡ got v r → (v < lo) ⊎ (hi < v) → number k lo hi q ≡ refusal 4 0 k
    unfolding number unless ◌&◌
    number-outside {v} e (inl h) = rw (e, lt-leb lo v h)
    number-outside {v} e (inr h) = rw (e, lt-leb v hi h, and-false (leb lo v))

    pub number_is : {v : ℕ} {r : List ℕ} → figure k q ≡ got v r → lo ≤ v → v ≤ hi → number k lo hi q ≡ got v r
    unfolding number unless ◌&◌
    number_is {v} e l h = rw (e, le-leb lo v l, le-leb v hi h)

-- ---- a word

pub same_pointwise : (v w : List ℕ) → pointwise nat_eq v w ≡ same v w
unfolding same ◌&◌
same_pointwise [] [] = refl
same_pointwise [] (y ∷ w) = refl
same_pointwise (x ∷ v) [] = refl
same_pointwise (x ∷ v) (y ∷ w) = ⊎_elim
    (λ (t : eqb x y ≡ true). rw (t, same) (same_pointwise v w))
    (λ (f : eqb x y ≡ false). rw (f, same))
    (true-or-false (eqb x y))

module _ (q w : List ℕ) where
  pub keyword-is : not (same (word_of q) w) ≡ false → keyword w q ≡ got tt (rest_of q)
  unfolding keyword first
  keyword-is e = unless-there 3 1 (same (word_of q) w) (rest_of q) (not-false (same (word_of q) w) e)

  pub keyword-not : not (same (word_of q) w) ≡ true → keyword w q ≡ refusal 3 0 1
  unfolding keyword first
  keyword-not n = unless_not 3 1 (same (word_of q) w) (rest_of q) (not-true (same (word_of q) w) n)
