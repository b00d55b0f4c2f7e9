-- A number or `?`, there and back.
-- Assumes nothing.
use Prim.Native.Nat.{ℕ, ◌≤◌, ◌<◌}
use mathlib.Core.Path.{◌≡◌, refl, sym, ap, ap₂, ◌∙◌}
use mathlib.Core.Logic.{◌⊎◌, inl, inr, ⊎_elim}
use mathlib.Core.Bool.{true, false}
use mathlib.Core.Option.{Option, none, some}
use mathlib.Core.List.{List, ◌∷◌, ◌++◌}
use native.Mathlib.Omega.{arith}
use lib.Dec.{leb}
use borrow.Author.Tests.{leb-true, le-leb}
use Rattle.meaning.specs.Numbers.{◌&◌}
use Rattle.meaning.specs.Lists.{each_none, each_more}
use Rattle.fields.specs.Bytes.{TAB, stop?, same}
use Rattle.fields.specs.Number.{digits_of, digit?, value, leads, number_of}
use Rattle.fields.specs.Reader.{got, field, formed, unless}
use Rattle.meaning.proofs.Booleans.{true-or-false}
use Rattle.fields.proofs.Digits.{digits-read, read-digits}
use Rattle.fields.proofs.Steps.{went, got-value, got-rest, unless-back, unless-there, formed-back, formed-there}
use Rattle.fields.proofs.Words.{Word, stops, same-eq, same_refl, field-there, field_back, digits-word}
use Rattle.placement_text.specs.Words.{word_?}
use Rattle.placement_text.specs.Writer.{or_mark, write_received}
use Rattle.placement_text.specs.Reader.{or_missing, received}

-- at most hi, where it was received
pub data AtMost (hi : ℕ) : Option ℕ → Type 0 where
  missing : AtMost hi none
  at_most : {v : ℕ} → v ≤ hi → AtMost hi (some v)

-- no number is written as `?`
number-not-mark : (v : ℕ) → v < 100000 → same (digits_of v) word_? ≡ false
unfolding number_of leads value digit? ◌&◌
number-not-mark v h = ⊎_elim
    (λ (t : same (digits_of v) word_? ≡ true).
    let e : number_of word_? ≡ some v = ap number_of (sym (same-eq (digits_of v) word_? t)) ∙ digits-read v h in
    let z : ◌≡◌ {A = ℕ} 0 1 = cc e in absurd (omega arith))
    (λ f. f)
    (true-or-false (same (digits_of v) word_?))

mark-word : Word word_?
unfolding stop?
mark-word = each_more refl each_none

pub received-stops : (o : Option ℕ) (r : List ℕ) → stops (write_received o ++ r) ≡ true
unfolding stops stop? write_received
received-stops o r = refl

pub received-there : (k hi : ℕ) (o : Option ℕ) (r : List ℕ) → AtMost hi o → hi < 100000 → stops r ≡ true → received k hi (write_received o ++ r) ≡ got o r
unfolding received or_missing or_mark write_received
received-there k hi _ r missing h t = rw (field-there k word_? r mark-word t) (rw (same_refl word_?, or_missing))
received-there k hi _ r (at_most {v = v} g) h t =
    rw (field-there k (digits_of v) r (digits-word v) t, number-not-mark v (omega arith), or_missing, formed-there k (number_of (digits_of v)) v r (digits-read v (omega arith)))
    (rw (unless-there 4 k (leb v hi) r (le-leb v hi g)))

-- what a number or `?` says that was read
pub record Received (hi : ℕ) (s : List ℕ) (o : Option ℕ) (r : List ℕ) : Type 0 where
  pub legal : AtMost hi o
  pub text : s ≡ write_received o ++ r

missing-back : (k hi : ℕ) (w s : List ℕ) {o : Option ℕ} {r : List ℕ} → or_missing k hi w s ≡ got o r → AtMost hi o × (w ≡ or_mark o) × (s ≡ r)
unfolding or_missing or_mark
missing-back k hi w s {o} {r} e = go (true-or-false (same w word_?))
  where
    go : (same w word_? ≡ true) ⊎ (same w word_? ≡ false) → AtMost hi o × (w ≡ or_mark o) × (s ≡ r)
    go (inl t) =
        let e' : got none s ≡ got o r = rw (t, or_missing) at e in
        rw (← got-value e') (missing, same-eq w word_? t, got-rest e')
    go (inr f) =
        let b = went (formed k (number_of w) s) _ (rw (f, or_missing) at e) in
        let c = went (unless 4 k (leb b.value hi) b.rest) _ b.on in
        let g = formed-back k (number_of w) s b.here in
        let u = unless-back 4 k (leb b.value hi) b.rest c.here in
        rw (← got-value c.on)
        (at_most (leb-true b.value hi u.0), sym (read-digits w b.value g.0), g.1 ∙ u.1 ∙ got-rest c.on)

pub received-back : (k hi : ℕ) (s : List ℕ) {o : Option ℕ} {r : List ℕ} → received k hi s ≡ got o r → Received hi s o r
unfolding received write_received
received-back k hi s h =
    let a = went (field k s) (or_missing k hi) h in
    let b = missing-back k hi a.value a.rest a.on in
    record { legal = b.0; text = field_back k s a.here ∙ ap (λ x. TAB ∷ x) (ap₂ ◌++◌ b.1 b.2) }
