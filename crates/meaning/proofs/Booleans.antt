-- What a test that passed, or failed, says; and that `some` is never `none`.
-- Assumes nothing.

use Prim.Native.Nat.{ℕ}
use mathlib.Core.Path.{◌≡◌, refl, sym, ◌∙◌}
use mathlib.Core.Logic.{◌⊎◌, inl, inr, ⊎_elim}
use mathlib.Core.Bool.{Bool, true, false, not, true≢false, false≢true}
use mathlib.Core.Option.{none, some}
use native.Mathlib.Omega.{arith}
use Rattle.meaning.specs.Numbers.{◌&◌, ◌or◌, imp}

pub true-or-false : (b : Bool) → (b ≡ true) ⊎ (b ≡ false)
true-or-false true = inl refl
true-or-false false = inr refl

pub never : {b : Bool} → b ≡ true → b ≡ false → ⊥
never p q = true≢false (sym p ∙ q)

pub is_false : (b : Bool) → (b ≡ true → ⊥) → b ≡ false
is_false true h = absurd (h refl)
is_false false h = refl

pub iff : {a b : Bool} → (a ≡ true → b ≡ true) → (b ≡ true → a ≡ true) → a ≡ b
iff {a} {b} f g = ⊎_elim (λ t. t ∙ sym (f t)) (λ u. u ∙ sym (is_false b (λ t. never (g t) u))) (true-or-false a)

-- ---- and, or, implies

pub and_left : (a b : Bool) → (a & b) ≡ true → a ≡ true
unfolding ◌&◌
and_left true b h = refl
and_left false b h = h

pub and_right : (a b : Bool) → (a & b) ≡ true → b ≡ true
unfolding ◌&◌
and_right true b h = h
and_right false b h = absurd (false≢true h)

pub and_intro : {a b : Bool} → a ≡ true → b ≡ true → (a & b) ≡ true
unfolding ◌&◌
and_intro p q = rw (p, q)

pub or_cases : (a b : Bool) → (a or b) ≡ true → (a ≡ true) ⊎ (b ≡ true)
unfolding ◌or◌
or_cases true b h = inl refl
or_cases false b h = inr h

pub or_left : (a b : Bool) → a ≡ true → (a or b) ≡ true
unfolding ◌or◌
or_left a b h = rw h

pub or_right : (a b : Bool) → b ≡ true → (a or b) ≡ true
unfolding ◌or◌
or_right true b h = refl
or_right false b h = h

-- not both: the second holds or the first fails
pub and-not : (a b : Bool) → (a & not b) ≡ false → (b ≡ true) ⊎ (a ≡ false)
unfolding ◌&◌
and-not true true h = inl refl
and-not true false h = absurd (true≢false h)
and-not false b h = inr refl

pub imp_use : (a b : Bool) → imp a b ≡ true → a ≡ true → b ≡ true
unfolding imp
imp_use true b h p = h
imp_use false b h p = absurd (false≢true p)

pub imp_intro : (a b : Bool) → (a ≡ true → b ≡ true) → imp a b ≡ true
unfolding imp
imp_intro true b h = h refl
imp_intro false b h = refl

-- ---- options

pub some-own : {A : Type 0} {a b : A} → some a ≡ some b → a ≡ b
some-own e = cc

pub none-some : {A B : Type 0} {a : A} → none ≡ some a → B
none-some e = absurd (let z : ◌≡◌ {A = ℕ} 0 1 = cc in omega arith)
