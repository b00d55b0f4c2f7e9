-- Lists of numbers: the place of a number, whether it is there, whether it comes twice.
-- Assumes nothing.
use Rattle.std.specs.Prelude.{ℕ, zero, suc, ◌+◌, ◌≡◌, Bool, true, false, List, [], ◌∷◌, eqb}

-- the place of x on a list, counted from 1; 0 where it is not there
unfoldable pub place : List ℕ → ℕ → ℕ
place [] x = 0
place (y ∷ ys) x = elim (eqb y x) [ true ↦ 1 | false ↦ elim (place ys x) [ zero ↦ 0 | suc p ↦ suc (suc p) ] ]

unfoldable pub member : ℕ → List ℕ → Bool
member x [] = false
member x (y ∷ ys) = elim (eqb x y) [ true ↦ true | false ↦ member x ys ]

-- no number comes twice
pub data Distinct : List ℕ → Type 0 where
  distinct_none : Distinct []
  distinct_more : {x : ℕ} {xs : List ℕ} → member x xs ≡ false → Distinct xs → Distinct (x ∷ xs)

-- each element is P
pub data Each {A : Type 0} (P : A → Type 0) : List A → Type 0 where
  each_none : Each P []
  each_more : {x : A} {xs : List A} → P x → Each P xs → Each P (x ∷ xs)

-- the sum of f over a list
unfoldable pub weigh : {A : Type 0} → (A → ℕ) → List A → ℕ
weigh f [] = 0
weigh f (x ∷ xs) = f x + weigh f xs

-- an element of a list passes
unfoldable pub some? : {A : Type 0} → (A → Bool) → List A → Bool
some? f [] = false
some? f (x ∷ xs) = elim (f x) [ true ↦ true | false ↦ some? f xs ]
