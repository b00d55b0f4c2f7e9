-- A reading that went on: what each of its steps gave.
-- Assumes nothing.
use Prim.Native.Nat.{ℕ}
use mathlib.Core.Path.{◌≡◌, refl}
use mathlib.Core.Bool.{Bool, true, false, false≢true}
use mathlib.Core.Option.{Option, none, some}
use mathlib.Core.List.{List}
use native.Mathlib.Omega.{arith}
use Rattle.fields.specs.Reader.{Step, got, refusal, Reader, next, on_line, unless, formed}

-- two readers, one after the other, went on: the first with a value, and the second from what was left
pub record Went {A B : Type 0} (p : Step A) (f : A → Reader B) (b : B) (r : List ℕ) : Type 0 where
  pub value : A
  pub rest : List ℕ
  pub here : p ≡ got value rest
  pub on : f value rest ≡ got b r

pub refusal-not-got : {A : Type 0} {e l k : ℕ} {a : A} {r : List ℕ} → refusal e l k ≡ got a r → ⊥
refusal-not-got h = let z : ◌≡◌ {A = ℕ} 0 1 = cc in omega arith

pub went : {A B : Type 0} {b : B} {r : List ℕ} (p : Step A) (f : A → Reader B) → next p f ≡ got b r → Went p f b r
went (got a q) f h = record { value = a; rest = q; here = refl; on = h }
went (refusal e l k) f h = absurd (refusal-not-got h)

pub got-value : {A : Type 0} {a b : A} {r s : List ℕ} → got a r ≡ got b s → a ≡ b
got-value h = cc

pub got-rest : {A : Type 0} {a b : A} {r s : List ℕ} → got a r ≡ got b s → r ≡ s
got-rest h = cc

pub on_line_lem : {A : Type 0} (l : ℕ) (p : Step A) {a : A} {r : List ℕ} → on_line l p ≡ got a r → p ≡ got a r
on_line_lem l (got x q) h = h
on_line_lem l (refusal e _ k) h = absurd (refusal-not-got h)

-- ---- a test, and a value that may be missing

pub unless-back : (e k : ℕ) (b : Bool) (s : List ℕ) {t : Unit {0}} {r : List ℕ} → unless e k b s ≡ got t r → (b ≡ true) × (s ≡ r)
unfolding unless
unless-back e k true s h = (refl, got-rest h)
unless-back e k false s h = absurd (refusal-not-got h)

pub unless-there : (e k : ℕ) (b : Bool) (s : List ℕ) → b ≡ true → unless e k b s ≡ got tt s
unfolding unless
unless-there e k true s h = refl
unless-there e k false s h = absurd (false≢true h)

pub unless_not : (e k : ℕ) (b : Bool) (s : List ℕ) → b ≡ false → unless e k b s ≡ refusal e 0 k
unfolding unless
unless_not e k b s h = rw h

pub formed-back : {A : Type 0} (k : ℕ) (o : Option A) (s : List ℕ) {a : A} {r : List ℕ} → formed k o s ≡ got a r → (o ≡ some a) × (s ≡ r)
unfolding formed
formed-back k (some x) s h = (cc, got-rest h)
formed-back k none s h = absurd (refusal-not-got h)

pub formed-there : {A : Type 0} (k : ℕ) (o : Option A) (a : A) (s : List ℕ) → o ≡ some a → formed k o s ≡ got a s
unfolding formed
formed-there k o a s h = rw h

pub formed-not : {A : Type 0} (k : ℕ) (o : Option A) (s : List ℕ) → o ≡ none → formed k o s ≡ refusal 3 0 k
unfolding formed
formed-not k o s h = rw h
