-- Sweeps until one changes nothing: what every visit keeps is kept, and with fuel enough nothing is left to do at any place.
-- The state, what a visit does and how much it has done are parameters.
-- Assumes nothing.
use Prim.Native.Nat.{ℕ, zero, suc, ◌+◌, ◌≤◌, ◌<◌}
use mathlib.Core.Path.{◌≡◌, refl, subst}
use mathlib.Core.Logic.{⊎_elim}
use mathlib.Core.Bool.{Bool, true, false}
use mathlib.Core.List.{List, [], ◌∷◌}
use native.Mathlib.Omega.{arith}
use lib.Dec.{eqb}
use borrow.Author.Tests.{eqb-true, eqb-false}
use Rattle.meaning.specs.Numbers.{In}
use Rattle.meaning.specs.Lists.{place}
use Rattle.meaning.specs.Solver.{row_by, rows_by, sweeps_by}
use Rattle.meaning.proofs.Numbers.{same}
use Rattle.meaning.proofs.Lists.{place-cases}

-- what a visit does: nothing, and then there was nothing to do there; or it does more
pub data Does {A : Type 0} (size : A → ℕ) (Idle : A → ℕ → ℕ → Type 0) (i j : ℕ) (a : A) : A → Type 0 where
  nothing-there : Idle a i j → Does size Idle i j a a
  does : (b : A) → size a < size b → Does size Idle i j a b

module _ {A : Type 0} (f : ℕ → ℕ → A → A) (size : A → ℕ) (Idle : A → ℕ → ℕ → Type 0) (P : A → Type 0)
    (inv : (i j : ℕ) (a : A) → P a → P (f i j a)) (view : (i j : ℕ) (a : A) → P a → Does size Idle i j a (f i j a)) where
  row-inv : (i : ℕ) (js : List ℕ) (a : A) → P a → P (row_by f i js a)
  unfolding row_by
  row-inv i [] a p = p
  row-inv i (j ∷ js) a p = row-inv i js (f i j a) (inv i j a p)

  row-grows : (i : ℕ) (js : List ℕ) (a : A) → P a → size a ≤ size (row_by f i js a)
  unfolding row_by
  row-grows i [] a p = omega arith
  row-grows i (j ∷ js) a p = go (f i j a) (view i j a p) (row-grows i js (f i j a) (inv i j a p))
    where
      go : (b : A) → Does size Idle i j a b → size b ≤ size (row_by f i js b) → size a ≤ size (row_by f i js b)
      go _ (nothing-there _) l = l
      go _ (does b l') l = omega arith

  row-still : (i : ℕ) (js : List ℕ) (a : A) → P a → size (row_by f i js a) ≡ size a → (row_by f i js a ≡ a) × ((j : ℕ) → 0 < place js j → Idle a i j)
  unfolding row_by place
  row-still i [] a p h = (refl, λ j l. absurd (omega arith))
  row-still i (j ∷ js) a p h = go (f i j a) (view i j a p) h (row-grows i js (f i j a) (inv i j a p)) (λ h'. row-still i js a p h')
    where
      go : (b : A) → Does size Idle i j a b → size (row_by f i js b) ≡ size a → size b ≤ size (row_by f i js b)
          → (size (row_by f i js a) ≡ size a → (row_by f i js a ≡ a) × ((j : ℕ) → 0 < place js j → Idle a i j))
          → (row_by f i js b ≡ a) × ((j' : ℕ) → 0 < place (j ∷ js) j' → Idle a i j')
      go _ (nothing-there u) h l w = ((w h).0, λ j' q. ⊎_elim (λ (e : j ≡ j'). subst (λ x. Idle a i x) e u) (λ q'. (w h).1 j' q') (place-cases j js j' q))
      go _ (does b l') h l w = absurd (omega arith)

  module _ (lists : ℕ → List ℕ) where
    pub rows-inv : (d i : ℕ) (a : A) → P a → P (rows_by f lists d i a)
    unfolding rows_by
    rows-inv zero i a p = p
    rows-inv (suc d) i a p = rows-inv d (suc i) (row_by f i (lists i) a) (row-inv i (lists i) a p)

    pub rows_grow : (d i : ℕ) (a : A) → P a → size a ≤ size (rows_by f lists d i a)
    unfolding rows_by
    rows_grow zero i a p = omega arith
    rows_grow (suc d) i a p = omega (arith, row-grows i (lists i) a p, rows_grow d (suc i) (row_by f i (lists i) a) (row-inv i (lists i) a p))

    rows-still : (d i : ℕ) (a : A) → P a → size (rows_by f lists d i a) ≡ size a → (k : ℕ) → i ≤ k → k < i + d → (j : ℕ) → 0 < place (lists k) j → Idle a k j
    unfolding rows_by
    rows-still zero i a p h k l u j q = absurd (omega arith)
    rows-still (suc d) i a p h k l u j q =
        let w = row-still i (lists i) a p (omega (arith, h, row-grows i (lists i) a p, rows_grow d (suc i) (row_by f i (lists i) a) (row-inv i (lists i) a p))) in
        ⊎_elim
        (λ (e : k ≡ i). rw e (w.1 j (subst (λ x. 0 < place (lists x) j) e q)))
        (λ ne. rows-still d (suc i) a p (rw w.0 at h) k (omega arith) (omega arith) j q)
        (same k i)

    pub rows_same : (d i : ℕ) (a : A) → P a → size (rows_by f lists d i a) ≡ size a → rows_by f lists d i a ≡ a
    unfolding rows_by
    rows_same zero i a p h = refl
    rows_same (suc d) i a p h =
        let w = row-still i (lists i) a p (omega (arith, h, row-grows i (lists i) a p, rows_grow d (suc i) (row_by f i (lists i) a) (row-inv i (lists i) a p))) in
        rw w.0 (rows_same d (suc i) a p (rw w.0 at h))

    pub sweeps-inv : (n d : ℕ) (a : A) → P a → P (sweeps_by f size lists n d a)
    unfolding sweeps_by
    sweeps-inv n zero a p = p
    sweeps-inv n (suc d) a p = go (eqb (size (rows_by f lists n 1 a)) (size a)) (sweeps-inv n d (rows_by f lists n 1 a) (rows-inv n 1 a p))
      where
        go : (b : Bool) → P (sweeps_by f size lists n d (rows_by f lists n 1 a)) → P (elim b [ true ↦ a | false ↦ sweeps_by f size lists n d (rows_by f lists n 1 a) ])
        go true w = p
        go false w = w

    -- with fuel enough, nothing is left to do on any list
    pub sweeps-still : (n B d : ℕ) → ((a : A) → P a → size a ≤ B) → (a : A) → P a → B < size a + d
        → (k : ℕ) → In n k → (j : ℕ) → 0 < place (lists k) j → Idle (sweeps_by f size lists n d a) k j
    unfolding sweeps_by
    sweeps-still n B zero bound a p l k r j q = absurd (omega (arith, bound a p))
    sweeps-still n B (suc d) bound a p l k r j q =
        go (eqb (size (rows_by f lists n 1 a)) (size a)) refl (λ l'. sweeps-still n B d bound (rows_by f lists n 1 a) (rows-inv n 1 a p) l' k r j q)
      where
        go : (b : Bool) → eqb (size (rows_by f lists n 1 a)) (size a) ≡ b
            → (B < size (rows_by f lists n 1 a) + d → Idle (sweeps_by f size lists n d (rows_by f lists n 1 a)) k j)
            → Idle (elim b [ true ↦ a | false ↦ sweeps_by f size lists n d (rows_by f lists n 1 a) ]) k j
        go true e w = rows-still n 1 a p (eqb-true _ _ e) k r.low (omega (arith, r.high)) j q
        go false e w = w (omega (arith, l, rows_grow n 1 a p, eqb-false (size (rows_by f lists n 1 a)) (size a) e))

    -- and one more sweep changes nothing
    pub sweeps-same : (n B d : ℕ) → ((a : A) → P a → size a ≤ B) → (a : A) → P a → B < size a + d
        → rows_by f lists n 1 (sweeps_by f size lists n d a) ≡ sweeps_by f size lists n d a
    unfolding sweeps_by
    sweeps-same n B zero bound a p l = absurd (omega (arith, bound a p))
    sweeps-same n B (suc d) bound a p l =
        go (eqb (size (rows_by f lists n 1 a)) (size a)) refl (λ l'. sweeps-same n B d bound (rows_by f lists n 1 a) (rows-inv n 1 a p) l')
      where
        go : (b : Bool) → eqb (size (rows_by f lists n 1 a)) (size a) ≡ b
            → (B < size (rows_by f lists n 1 a) + d
            → rows_by f lists n 1 (sweeps_by f size lists n d (rows_by f lists n 1 a)) ≡ sweeps_by f size lists n d (rows_by f lists n 1 a))
            → rows_by f lists n 1 (elim b [ true ↦ a | false ↦ sweeps_by f size lists n d (rows_by f lists n 1 a) ])
            ≡ elim b [ true ↦ a | false ↦ sweeps_by f size lists n d (rows_by f lists n 1 a) ]
        go true e w = rows_same n 1 a p (eqb-true _ _ e)
        go false e w = w (omega (arith, l, rows_grow n 1 a p, eqb-false (size (rows_by f lists n 1 a)) (size a) e))
