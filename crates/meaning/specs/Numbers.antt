-- The numbers 1 to n, and tests, counts and searches over them.
-- Assumes nothing.
use Rattle.std.specs.Prelude.{ℕ, zero, suc, ◌+◌, ◌≤◌, Bool, true, false}
use Rattle.std.proofs.Math.Option.{Option, none, some}

-- k is one of 1 to n
pub record In (n k : ℕ) : Type 0 where
  pub low : 1 ≤ k
  pub high : k ≤ n

-- ---- tests; these stay shut, so that the two tests can be read off a conjunction

infixr 35 ◌&◌
unfoldable pub ◌&◌ : Bool → Bool → Bool
true & b = b
false & b = false

infixr 30 ◌or◌
unfoldable pub ◌or◌ : Bool → Bool → Bool
true or b = true
false or b = b

unfoldable pub imp : Bool → Bool → Bool
imp true b = b
imp false b = true

-- all of 1 to n pass
unfoldable pub all : ℕ → (ℕ → Bool) → Bool
all zero f = true
all (suc n) f = elim (f (suc n)) [ true ↦ all n f | false ↦ false ]

-- ---- counts

abbrev pub bit : Bool → ℕ
bit true = 1
bit false = 0

-- f 1 + .. + f n
unfoldable pub sum : ℕ → (ℕ → ℕ) → ℕ
sum zero f = 0
sum (suc n) f = f (suc n) + sum n f

-- how many of 1 to n pass
unfoldable pub count : ℕ → (ℕ → Bool) → ℕ
count n f = sum n (λ k. bit (f k))

-- ---- searches

-- the smallest of a, a + 1, .. that passes, d of them looked at
unfoldable pub first_from : ℕ → ℕ → (ℕ → Bool) → Option ℕ
first_from zero a f = none
first_from (suc d) a f = elim (f a) [ true ↦ some a | false ↦ first_from d (suc a) f ]

-- the smallest of 1 to n that passes
abbrev pub smallest : ℕ → (ℕ → Bool) → Option ℕ
smallest n f = first_from n 1 f
