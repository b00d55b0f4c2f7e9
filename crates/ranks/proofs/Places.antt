-- Places on a list: what a search finds, what stands at a place, and how places lie in a list's front.
-- Assumes nothing.
use Prim.Native.Nat.{ℕ, zero, suc, ◌+◌, ◌-◌, ◌≤◌, ◌<◌}
use mathlib.Core.Path.{◌≡◌, refl, sym, ap, ◌∙◌, subst}
use mathlib.Core.Logic.{⊎_elim}
use mathlib.Core.Bool.{Bool, true, false}
use mathlib.Core.List.{List, [], ◌∷◌}
use native.Mathlib.Omega.{arith}
use lib.ListN.{length, get_or, take, length-take}
use lib.Seq.{get_or-take}
use lib.Dec.{ltb, leb}
use borrow.Author.Tests.{lt-ltb, le-leb, lt-leb}
use Rattle.std.specs.Prelude.{Option, Some, None, MatchOption}
use Rattle.std.specs.List.{AllWithin, HoldsAt}
use Rattle.ranks.specs.View.{place_of, Once, Names}
use Rattle.meaning.specs.Numbers.{◌&◌}
use Rattle.meaning.specs.Lists.{place}
use Rattle.meaning.proofs.Numbers.{order}
use Rattle.meaning.proofs.Lists.{At, here, later, nowhere, at, place-later, place_here}

-- ---- the search for a place: x is not among the first k

abbrev pub NotAmong : List ℕ → ℕ → ℕ → Type 0
NotAmong l x k = (q : ℕ) → q < k → get_or l q 0 ≡ x → ⊥

pub place-hit : (l : List ℕ) (x k : ℕ) → k < length l → NotAmong l x k → get_or l k 0 ≡ x → place l x ≡ k + 1
place-hit [] x k h n e = absurd (omega arith)
place-hit (y ∷ ys) x zero h n e = place_here y ys x e
place-hit (y ∷ ys) x (suc k) h n e =
    let w = place-hit ys x k (omega arith) (λ q l d. n (suc q) (omega arith) d) e in
    let v = place-later y ys x (n 0 (omega arith)) (omega arith) in
    omega arith

pub place_none : (l : List ℕ) (x k : ℕ) → length l ≤ k → NotAmong l x k → place l x ≡ 0
unfolding place
place_none [] x k h n = refl
place_none (y ∷ ys) x k h n = go (place (y ∷ ys) x) (at ys y x) (place_none ys x (k - 1) (omega arith) (λ q l d. n (suc q) (omega arith) d))
  where
    go : (q : ℕ) → At ys y x q → place ys x ≡ 0 → q ≡ 0
    go q (here e) w = absurd (n 0 (omega arith) e)
    go q (later ne p e) w = absurd (omega arith)
    go q (nowhere ne e) w = refl

-- what the search for the first x says, as a place
pub place_first : (l : List ℕ) (x : ℕ) (r : Option ℕ) → MatchOption r (AllWithin (λ y. y ≡ x → ⊥) l 0 (length l)) (λ i. (i < length l) × HoldsAt (λ y. y ≡ x) l i × AllWithin (λ y. y ≡ x → ⊥) l 0 i) → place_of r ≡ place l x
place_first l x None h = sym (place_none l x (length l) (omega arith) (λ q k. h q 0 (omega arith) k))
place_first l x (Some i) h =
    let w = place-hit l x i h.0 (λ q k. h.2 q 0 (omega arith) k) (h.1 0) in
    omega (arith, w)

-- ---- what a place says

pub place-le : (l : List ℕ) (x : ℕ) → place l x ≤ length l
unfolding place
place-le [] x = omega arith
place-le (y ∷ ys) x = go (place (y ∷ ys) x) (at ys y x) (place-le ys x)
  where
    go : (q : ℕ) → At ys y x q → place ys x ≤ length ys → q ≤ suc (length ys)
    go q (here e) h = omega arith
    go q (later ne p e) h = omega arith
    go q (nowhere ne e) h = omega arith

-- what stands at the place of x is x
pub at_place : (l : List ℕ) (x p : ℕ) → place l x ≡ suc p → get_or l p 0 ≡ x
unfolding place
at_place [] x p h = absurd (omega arith)
at_place (y ∷ ys) x p h = go p (place (y ∷ ys) x) (at ys y x) h (λ p' h'. at_place ys x p' h')
  where
    go : (p q : ℕ) → At ys y x q → q ≡ suc p → ((p' : ℕ) → place ys x ≡ suc p' → get_or ys p' 0 ≡ x) → get_or (y ∷ ys) p 0 ≡ x
    go zero q (here e) h w = e
    go (suc p) q (here e) h w = absurd (omega arith)
    go zero q (later ne p' e) h w = absurd (omega arith)
    go (suc p) q (later ne p' e) h w = w p (omega arith)
    go p q (nowhere ne e) h w = absurd (omega arith)

-- what stands at p has its place there or before
pub place-of-at : (l : List ℕ) (p : ℕ) → p < length l → 0 < place l (get_or l p 0)
place-of-at [] p h = absurd (omega arith)
place-of-at (y ∷ ys) zero h = let e = place_here y ys y refl in omega arith
place-of-at (y ∷ ys) (suc p) h = go (place (y ∷ ys) (get_or ys p 0)) (at ys y (get_or ys p 0)) (place-of-at ys p (omega arith))
  where
    go : (q : ℕ) → At ys y (get_or ys p 0) q → 0 < place ys (get_or ys p 0) → 0 < q
    go q (here e) h = omega arith
    go q (later ne p e) h = omega arith
    go q (nowhere ne e) h = absurd (omega arith)

pub place-at-most : (l : List ℕ) (p : ℕ) → p < length l → place l (get_or l p 0) ≤ suc p
place-at-most [] p h = absurd (omega arith)
place-at-most (y ∷ ys) zero h = let e = place_here y ys y refl in omega arith
place-at-most (y ∷ ys) (suc p) h = go (place (y ∷ ys) (get_or ys p 0)) (at ys y (get_or ys p 0)) (place-at-most ys p (omega arith))
  where
    go : (q : ℕ) → At ys y (get_or ys p 0) q → place ys (get_or ys p 0) ≤ suc p → q ≤ suc (suc p)
    go q (here e) h = omega arith
    go q (later ne p e) h = omega arith
    go q (nowhere ne e) h = omega arith

-- who stands on a list has what each of its places has
pub on_list : (P : ℕ → Type 0) (l : List ℕ) (x : ℕ) → 0 < place l x → ((p : ℕ) → p < length l → P (get_or l p 0)) → P x
on_list P l x h f =
    let e : place l x ≡ suc (place l x - 1) = omega arith in
    subst P (at_place l x (place l x - 1) e) (f (place l x - 1) (omega (arith, place-le l x)))

-- ---- lists that name nobody twice

pub once-head : (y : ℕ) (ys : List ℕ) → Once (y ∷ ys) → place ys y ≡ 0
once-head y ys u = go (place ys y) refl
  where
    go : (q : ℕ) → place ys y ≡ q → q ≡ 0
    go zero e = refl
    go (suc p) e = absurd (
        let a = u (suc p) (omega (arith, place-le ys y)) in
        let b = ap (place (y ∷ ys)) (at_place ys y p e) in
        omega (arith, place_here y ys y refl))

pub once-tail : (y : ℕ) (ys : List ℕ) → Once (y ∷ ys) → Once ys
once-tail y ys u p l = go (place (y ∷ ys) (get_or ys p 0)) (at ys y (get_or ys p 0)) (u (suc p) (omega arith))
  where
    go : (q : ℕ) → At ys y (get_or ys p 0) q → q ≡ suc (suc p) → place ys (get_or ys p 0) ≡ suc p
    go q (here e) h = absurd (omega arith)
    go q (later ne r e) h = omega arith
    go q (nowhere ne e) h = absurd (omega arith)

-- ---- the front of a list

pub place-take : (l : List ℕ) (x q : ℕ) → place l x ≤ q → place (take q l) x ≡ place l x
unfolding place
place-take [] x zero h = refl
place-take [] x (suc q) h = refl
place-take (y ∷ ys) x zero h = let z : place (y ∷ ys) x ≡ 0 = omega arith in sym z
place-take (y ∷ ys) x (suc q) h = go (place (y ∷ ys) x) (at ys y x) (place (y ∷ take q ys) x) (at (take q ys) y x) h (λ h'. place-take ys x q h')
  where
    go : (a : ℕ) → At ys y x a → (b : ℕ) → At (take q ys) y x b → a ≤ suc q → (place ys x ≤ q → place (take q ys) x ≡ place ys x) → b ≡ a
    go a (here e) b (here f) h w = refl
    go a (here e) b (later ne p f) h w = absurd (ne e)
    go a (here e) b (nowhere ne f) h w = absurd (ne e)
    go a (later ne p e) b (here f) h w = absurd (ne f)
    go a (later ne p e) b (later ne' p' f) h w = omega (arith, w (omega arith))
    go a (later ne p e) b (nowhere ne' f) h w = absurd (omega (arith, w (omega arith)))
    go a (nowhere ne e) b (here f) h w = absurd (ne f)
    go a (nowhere ne e) b (later ne' p' f) h w = absurd (omega (arith, w (omega arith)))
    go a (nowhere ne e) b (nowhere ne' f) h w = refl

pub place-past : (l : List ℕ) (x q : ℕ) → q < place l x → place (take q l) x ≡ 0
unfolding place
place-past [] x q h = absurd (omega arith)
place-past (y ∷ ys) x zero h = refl
place-past (y ∷ ys) x (suc q) h = go (place (y ∷ ys) x) (at ys y x) (place (y ∷ take q ys) x) (at (take q ys) y x) h (λ h'. place-past ys x q h')
  where
    go : (a : ℕ) → At ys y x a → (b : ℕ) → At (take q ys) y x b → suc q < a → (q < place ys x → place (take q ys) x ≡ 0) → b ≡ 0
    go a (here e) b f h w = absurd (omega arith)
    go a (later ne p e) b (here f) h w = absurd (ne f)
    go a (later ne p e) b (later ne' p' f) h w = absurd (omega (arith, w (omega arith)))
    go a (later ne p e) b (nowhere ne' f) h w = refl
    go a (nowhere ne e) b f h w = absurd (omega arith)

-- k stands among the first q: a test
pub front-test : (l : List ℕ) (x q : ℕ) → ltb 0 (place (take q l) x) ≡ ltb 0 (place l x) & leb (place l x) q
unfolding ◌&◌
front-test l x q = ⊎_elim
    (λ (h : place l x ≤ q). rw (place-take l x q h, le-leb (place l x) q h) (sym (and-true (ltb 0 (place l x)))))
    (λ (h : q < place l x). rw (place-past l x q h, lt-leb (place l x) q h, lt-ltb 0 (place l x) (omega arith)))
    (order (place l x) q)
  where
    and-true : (b : Bool) → (b & true) ≡ b
    and-true true = refl
    and-true false = refl

pub once-take : (l : List ℕ) (q : ℕ) → Once l → Once (take q l)
once-take l q u p h =
    let s = length-take q l in
    let k : p < q = omega arith in
    let e = u p (omega arith) in
    rw (get_or-take q l p 0 k) (place-take l (get_or l p 0) q (omega arith) ∙ e)

pub names-take : (n q : ℕ) (l : List ℕ) → Names n l → Names n (take q l)
names-take n q l r p h =
    let k : p < q = omega (arith, length-take q l) in
    rw get_or-take (r p (omega (arith, length-take q l)))
