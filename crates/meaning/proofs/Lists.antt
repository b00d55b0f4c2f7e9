-- Places on a list: counted from 1, one for each number, and 0 exactly for what isn't there.
-- Assumes nothing.
use Prim.Native.Nat.{ℕ, zero, suc, ◌<◌}
use mathlib.Core.Path.{◌≡◌, refl, sym, ap, ◌∙◌, subst}
use mathlib.Core.Logic.{◌⊎◌, inl, inr, ⊎_elim}
use mathlib.Core.Bool.{Bool, true, false, false≢true}
use mathlib.Core.List.{List, [], ◌∷◌, ◌++◌}
use native.Mathlib.Omega.{arith}
use lib.ListN.{get_or}
use lib.Dec.{eqb}
use borrow.Author.Tests.{eqb-true, eqb-false}
use Rattle.meaning.specs.Lists.{place, Each, each_none, each_more, some?}
use Rattle.meaning.proofs.Booleans.{true-or-false}

-- what the place of x in y ∷ ys is
pub data At (ys : List ℕ) (y x : ℕ) : ℕ → Type 0 where
  here : y ≡ x → At ys y x 1
  later : (y ≡ x → ⊥) → (p : ℕ) → place ys x ≡ suc p → At ys y x (suc (suc p))
  nowhere : (y ≡ x → ⊥) → place ys x ≡ 0 → At ys y x 0

pub at : (ys : List ℕ) (y x : ℕ) → At ys y x (place (y ∷ ys) x)
unfolding place
at ys y x = go (eqb y x) refl (place ys x) refl
  where
    go : (b : Bool) → eqb y x ≡ b → (q : ℕ) → place ys x ≡ q
        → At ys y x (elim b [ true ↦ 1 | false ↦ elim q [ zero ↦ 0 | suc p ↦ suc (suc p) ] ])
    go true e q h = here (eqb-true y x e)
    go false e zero h = nowhere (eqb-false y x e) h
    go false e (suc p) h = later (eqb-false y x e) p h

pub place-cases : (y : ℕ) (ys : List ℕ) (x : ℕ) → 0 < place (y ∷ ys) x → (y ≡ x) ⊎ (0 < place ys x)
place-cases y ys x h = go (place (y ∷ ys) x) (at ys y x) h
  where
    go : (q : ℕ) → At ys y x q → 0 < q → (y ≡ x) ⊎ (0 < place ys x)
    go q (here e) h = inl e
    go q (later ne p e) h = inr (omega arith)
    go q (nowhere ne e) h = absurd (omega arith)

-- two at one place are one
pub place-inj : (l : List ℕ) (x z : ℕ) → 0 < place l x → place l x ≡ place l z → x ≡ z
unfolding place
place-inj [] x z l e = absurd (omega arith)
place-inj (y ∷ ys) x z l e = go (place (y ∷ ys) x) (at ys y x) (place (y ∷ ys) z) (at ys y z) l e (λ l' e'. place-inj ys x z l' e')
  where
    go : (q : ℕ) → At ys y x q → (s : ℕ) → At ys y z s → 0 < q → q ≡ s → (0 < place ys x → place ys x ≡ place ys z → x ≡ z) → x ≡ z
    go q (here a) s (here b) l e w = sym a ∙ b
    go q (here a) s (later nb p b) l e w = absurd (omega arith)
    go q (here a) s (nowhere nb b) l e w = absurd (omega arith)
    go q (later na p a) s (here b) l e w = absurd (omega arith)
    go q (later na p a) s (later nb p' b) l e w = w (omega arith) (omega arith)
    go q (later na p a) s (nowhere nb b) l e w = absurd (omega arith)
    go q (nowhere na a) s b l e w = absurd (omega arith)

-- y ∷ ys gives the others one place more
pub place-later : (y : ℕ) (ys : List ℕ) (x : ℕ) → (y ≡ x → ⊥) → 0 < place ys x → place (y ∷ ys) x ≡ suc (place ys x)
place-later y ys x ne l = go (place (y ∷ ys) x) (at ys y x)
  where
    go : (q : ℕ) → At ys y x q → q ≡ suc (place ys x)
    go q (here e) = absurd (ne e)
    go q (later _ p e) = ap suc (sym e)
    go q (nowhere _ e) = absurd (omega arith)

pub place_here : (y : ℕ) (ys : List ℕ) (x : ℕ) → y ≡ x → place (y ∷ ys) x ≡ 1
place_here y ys x e = go (place (y ∷ ys) x) (at ys y x)
  where
    go : (q : ℕ) → At ys y x q → q ≡ 1
    go q (here _) = refl
    go q (later ne p _) = absurd (ne e)
    go q (nowhere ne _) = absurd (ne e)

-- what stands on a list has the property of each
pub each-place : {P : ℕ → Type 0} (l : List ℕ) → Each P l → (x : ℕ) → 0 < place l x → P x
unfolding place
each-place [] each_none x h = absurd (omega arith)
each-place {P} (y ∷ ys) (each_more p ps) x h =
    ⊎_elim (λ (e : y ≡ x). subst P e p) (λ h'. each-place ys ps x h') (place-cases y ys x h)

pub each-end : {A : Type 0} {P : A → Type 0} {l : List A} {x : A} → Each P l → P x → Each P (l ++ (x ∷ []))
each-end each_none q = each_more q each_none
each-end (each_more p ps) q = each_more p (each-end ps q)

-- ---- the element at an index

-- what holds of each element and of the default holds at every index
pub each_at : {A : Type 0} {P : A → Type 0} (l : List A) → Each P l → (d : A) → P d → (k : ℕ) → P (get_or l k d)
each_at [] each_none d q k = q
each_at (y ∷ ys) (each_more p ps) d q zero = p
each_at (y ∷ ys) (each_more p ps) d q (suc k) = each_at ys ps d q k

-- ---- tests over a list

pub record Passes {A : Type 0} (f : A → Bool) (P : A → Type 0) : Type 0 where
  pub it : A
  pub passed : f it ≡ true
  pub has : P it

-- one that passes, with the property of each
pub some-use : {A : Type 0} {P : A → Type 0} (f : A → Bool) (l : List A) → Each P l → some? f l ≡ true → Passes f P
unfolding some?
some-use f [] each_none h = absurd (false≢true h)
some-use {A} {P} f (x ∷ xs) (each_more p ps) h = go (true-or-false (f x)) (λ h'. some-use f xs ps h')
  where
    go : (f x ≡ true) ⊎ (f x ≡ false) → (some? f xs ≡ true → Passes f P) → Passes f P
    go (inl t) w = record { it = x; passed = t; has = p }
    go (inr u) w = w (rw (u, some?) at h)

pub some-here : {A : Type 0} (f : A → Bool) (x : A) (xs : List A) → f x ≡ true → some? f (x ∷ xs) ≡ true
unfolding some?
some-here f x xs t = rw (t, some?)

pub some-later : {A : Type 0} (f : A → Bool) (x : A) (xs : List A) → some? f xs ≡ true → some? f (x ∷ xs) ≡ true
unfolding some?
some-later f x xs t = ⊎_elim (λ (h : f x ≡ true). rw (h, some?)) (λ (h : f x ≡ false). rw (h, some?) t) (true-or-false (f x))

pub some-cases : {A : Type 0} (f : A → Bool) (x : A) (xs : List A) → some? f (x ∷ xs) ≡ true → (f x ≡ true) ⊎ (some? f xs ≡ true)
unfolding some?
some-cases f x xs h = ⊎_elim (λ t. inl t) (λ (u : f x ≡ false). inr (rw (u, some?) at h)) (true-or-false (f x))
