-- Words and fields, read back as they were written, and written back as they were read.
-- Assumes nothing.
use Prim.Native.Nat.{ℕ, zero, suc, ◌+◌, ◌/◌, ◌%◌, ◌≤◌, ◌<◌}
use mathlib.Core.Path.{◌≡◌, refl, sym, ap, ap₂, ◌∙◌}
use mathlib.Core.Logic.{◌⊎◌, inl, inr, ⊎_elim}
use mathlib.Core.Bool.{Bool, true, false, false≢true}
use mathlib.Core.List.{List, [], ◌∷◌, ◌++◌}
use native.Mathlib.Omega.{arith}
use lib.Dec.{leb, eqb}
use borrow.Author.Tests.{leb-true, eqb-true, le-leb, eq-eqb, ne_eqb}
use Rattle.meaning.specs.Numbers.{◌&◌}
use Rattle.meaning.specs.Lists.{Each, each_none, each_more}
use Rattle.fields.specs.Bytes.{TAB, LF, stop?, word_of, rest_of, same}
use Rattle.fields.specs.Number.{digits, digits_of, number_of}
use Rattle.fields.specs.Reader.{got, first, field, line_end, keyword, figure, number, running, numbered, unless}
use Rattle.fields.specs.Writer.{write_number}
use Rattle.meaning.proofs.Booleans.{true-or-false, and_left, and_right, and_intro}
use Rattle.fields.proofs.Digits.{one-or-more, digits-small, digits-large, digits-read, read-digits}
use Rattle.fields.proofs.Steps.{refusal-not-got, went, got-value, got-rest, unless-back, unless-there, formed-back, formed-there}

-- ---- words

-- a word: no byte of it is a tab or a line end
abbrev pub Word : List ℕ → Type 0
Word w = Each (λ b. stop? b ≡ false) w

-- what follows a word: a tab, a line end, or nothing
unfoldable pub stops : List ℕ → Bool
stops [] = true
stops (b ∷ s) = stop? b

pub word-there : (w r : List ℕ) → Word w → stops r ≡ true → word_of (w ++ r) ≡ w
unfolding word_of stops
word-there _ [] each_none h = refl
word-there _ (b ∷ r) each_none h = rw (h, word_of)
word-there _ r (each_more {x = x} {xs = xs} f fs) h = rw (f, word_of) (ap (λ z. x ∷ z) (word-there xs r fs h))

pub rest-there : (w r : List ℕ) → Word w → stops r ≡ true → rest_of (w ++ r) ≡ r
unfolding rest_of stops
rest-there _ [] each_none h = refl
rest-there _ (b ∷ r) each_none h = rw (h, rest_of)
rest-there _ r (each_more {x = x} {xs = xs} f fs) h = rw (f, rest_of) (rest-there xs r fs h)

pub word-rest : (s : List ℕ) → word_of s ++ rest_of s ≡ s
unfolding word_of rest_of
word-rest [] = refl
word-rest (b ∷ s) = ⊎_elim
    (λ (t : stop? b ≡ true). rw (t, word_of, rest_of))
    (λ (f : stop? b ≡ false). rw (f, word_of, rest_of) (ap (λ z. b ∷ z) (word-rest s)))
    (true-or-false (stop? b))

pub same-eq : (v w : List ℕ) → same v w ≡ true → v ≡ w
unfolding same
same-eq [] [] h = refl
same-eq [] (y ∷ w) h = absurd (false≢true h)
same-eq (x ∷ v) [] h = absurd (false≢true h)
same-eq (x ∷ v) (y ∷ w) h = ap₂ ◌∷◌ (eqb-true x y (and_left (eqb x y) (same v w) h)) (same-eq v w (and_right (eqb x y) (same v w) h))

pub same_refl : (w : List ℕ) → same w w ≡ true
unfolding same
same_refl [] = refl
same_refl (x ∷ w) = and_intro (eq-eqb x x refl) (same_refl w)

-- ---- fields

pub field-there : (k : ℕ) (w r : List ℕ) → Word w → stops r ≡ true → field k (TAB ∷ (w ++ r)) ≡ got w r
unfolding field first
field-there k w r f h = ap₂ got (word-there w r f h) (rest-there w r f h)

pub field_back : (k : ℕ) (s : List ℕ) {w r : List ℕ} → field k s ≡ got w r → s ≡ TAB ∷ (w ++ r)
unfolding field first
field_back k [] h = absurd (refusal-not-got h)
field_back k (b ∷ s) {w} {r} h = go (true-or-false (eqb b TAB))
  where
    go : (eqb b TAB ≡ true) ⊎ (eqb b TAB ≡ false) → b ∷ s ≡ TAB ∷ (w ++ r)
    go (inl t) =
        let h' : got (word_of s) (rest_of s) ≡ got w r = rw (t, field) at h in
        ap₂ ◌∷◌ (eqb-true b TAB t) (sym (word-rest s) ∙ ap₂ ◌++◌ (got-value h') (got-rest h'))
    go (inr f) = absurd (refusal-not-got {A = List ℕ} (rw (f, field) at h))

pub end-there : (k : ℕ) (r : List ℕ) → line_end k (LF ∷ r) ≡ got tt r
unfolding line_end
end-there k r = refl

pub end_back : (k : ℕ) (s : List ℕ) {t : Unit {0}} {r : List ℕ} → line_end k s ≡ got t r → s ≡ LF ∷ r
unfolding line_end
end_back k [] h = absurd (refusal-not-got h)
end_back k (b ∷ s) {t} {r} h = go (true-or-false (eqb b LF))
  where
    go : (eqb b LF ≡ true) ⊎ (eqb b LF ≡ false) → b ∷ s ≡ LF ∷ r
    go (inl u) = ap₂ ◌∷◌ (eqb-true b LF u) (got-rest {A = Unit {0}} (rw (u, line_end) at h))
    go (inr f) = absurd (refusal-not-got {A = Unit {0}} (rw (f, line_end) at h))

pub keyword-there : (w r : List ℕ) → Word w → stops r ≡ true → keyword w (w ++ r) ≡ got tt r
unfolding keyword first
keyword-there w r f h = rw (word-there w r f h, rest-there w r f h) (unless-there 3 1 (same w w) r (same_refl w))

pub keyword-back : (w s : List ℕ) {t : Unit {0}} {r : List ℕ} → keyword w s ≡ got t r → s ≡ w ++ r
unfolding keyword first
keyword-back w s h =
    let u = unless-back 3 1 (same (word_of s) w) (rest_of s) h in
    sym (word-rest s) ∙ ap₂ ◌++◌ (same-eq (word_of s) w u.0) u.1

-- ---- numbers

append-word : (v w : List ℕ) → Word v → Word w → Word (v ++ w)
append-word _ w each_none g = g
append-word _ w (each_more {xs = xs} f fs) g = each_more f (append-word xs w fs g)

digit-word : (d : ℕ) → d < 10 → Word ((48 + d) ∷ [])
unfolding stop?
digit-word d h = each_more {x = 48 + d} (rw (ne_eqb (48 + d) 9 (λ e. omega arith), stop?) (ne_eqb (48 + d) 10 (λ e. omega arith))) each_none

bounded-digits-word : (k v : ℕ) → v ≤ k → Word (digits k v)
bounded-digits-word zero v h = rw (digits-small zero v (omega arith)) (digit-word v (omega arith))
bounded-digits-word (suc k) v h = go (one-or-more v) (λ a. bounded-digits-word k (v / 10) a)
  where
    go : (v < 10) ⊎ (10 ≤ v) → (v / 10 ≤ k → Word (digits k (v / 10))) → Word (digits (suc k) v)
    go (inl l) ih = rw (digits-small (suc k) v l) (digit-word v l)
    go (inr l) ih = rw (digits-large k v l) (append-word (digits k (v / 10)) _ (ih (omega arith)) (digit-word (v % 10) (omega arith)))

pub digits-word : (v : ℕ) → Word (digits_of v)
unfolding digits_of
digits-word v = bounded-digits-word v v (omega arith)

pub number-stops : (v : ℕ) (r : List ℕ) → stops (write_number v ++ r) ≡ true
unfolding stops write_number stop?
number-stops v r = refl

pub lf-stops : (r : List ℕ) → stops (LF ∷ r) ≡ true
unfolding stops stop?
lf-stops r = refl

pub figure-there : (k v : ℕ) (r : List ℕ) → v < 100000 → stops r ≡ true → figure k (write_number v ++ r) ≡ got v r
unfolding figure write_number
figure-there k v r h t =
    rw (field-there k (digits_of v) r (digits-word v) t) (formed-there k (number_of (digits_of v)) v r (digits-read v h))

pub figure-back : (k : ℕ) (s : List ℕ) {v : ℕ} {r : List ℕ} → figure k s ≡ got v r → s ≡ write_number v ++ r
unfolding figure write_number
figure-back k s {v} {r} h =
    let a = went (field k s) _ h in
    let f = formed-back k (number_of a.value) a.rest a.on in
    field_back k s a.here ∙ ap (λ x. TAB ∷ x) (ap₂ ◌++◌ (sym (read-digits a.value v f.0)) f.1)

-- a number of lo to hi was read here
pub record Ranged (lo hi v : ℕ) (s r : List ℕ) : Type 0 where
  pub low : lo ≤ v
  pub high : v ≤ hi
  pub text : s ≡ write_number v ++ r

module _ (k lo hi : ℕ) where
  pub number-there : (v : ℕ) (r : List ℕ) → lo ≤ v → v ≤ hi → hi < 100000 → stops r ≡ true → number k lo hi (write_number v ++ r) ≡ got v r
  unfolding number
  number-there v r l h g t =
      rw (figure-there k v r (omega arith) t, unless-there 4 k (leb lo v & leb v hi) r (and_intro (le-leb lo v l) (le-leb v hi h)))

  pub number-back : (s : List ℕ) {v : ℕ} {r : List ℕ} → number k lo hi s ≡ got v r → Ranged lo hi v s r
  unfolding number
  number-back s {v} {r} h =
      let b = went (figure k s) _ h in
      let c = went (unless 4 k (leb lo b.value & leb b.value hi) b.rest) _ b.on in
      let t = unless-back 4 k (leb lo b.value & leb b.value hi) b.rest c.here in
      let e : b.value ≡ v = got-value c.on in
      record {
        low = rw e at (leb-true lo b.value (and_left _ _ t.0));
        high = rw e at (leb-true b.value hi (and_right _ _ t.0));
        text = figure-back k s b.here ∙ ap₂ (λ x y. write_number x ++ y) e (t.1 ∙ got-rest c.on);
      }

pub running-there : (k v : ℕ) (r : List ℕ) → v < 100000 → stops r ≡ true → running k v (write_number v ++ r) ≡ got tt r
unfolding running
running-there k v r h t = rw (figure-there k v r h t) (unless-there 3 k (eqb v v) r (eq-eqb v v refl))

pub running-back : (k v : ℕ) (s : List ℕ) {t : Unit {0}} {r : List ℕ} → running k v s ≡ got t r → s ≡ write_number v ++ r
unfolding running
running-back k v s h =
    let b = went (figure k s) _ h in
    let u = unless-back 3 k (eqb b.value v) b.rest b.on in
    figure-back k s b.here ∙ ap₂ (λ x y. write_number x ++ y) (eqb-true b.value v u.0) u.1

pub numbered-there : (w : List ℕ) (i : ℕ) (r : List ℕ) → Word w → i < 100000 → stops r ≡ true → numbered w i (w ++ (write_number i ++ r)) ≡ got tt r
unfolding numbered
numbered-there w i r f h t = rw (keyword-there w (write_number i ++ r) f (number-stops i r)) (running-there 2 i r h t)

pub numbered-back : (w : List ℕ) (i : ℕ) (s : List ℕ) {t : Unit {0}} {r : List ℕ} → numbered w i s ≡ got t r → s ≡ w ++ (write_number i ++ r)
unfolding numbered
numbered-back w i s h =
    let a = went (keyword w s) _ h in
    keyword-back w s a.here ∙ ap (λ x. w ++ x) (running-back 2 i a.rest a.on)
