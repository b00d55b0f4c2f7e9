-- A row of 64 bits read as 64 marks, place 0 first, and the rows that have given marks.
-- Assumes nothing.
use Rattle.std.specs.Prelude.{ℕ, zero, suc, ◌+◌, ◌*◌, ◌/◌, ◌%◌, Bool, true, false, not, List, [], ◌∷◌, eqb, leb, get_or, set}

-- the lowest k binary digits of n, lowest first: whether each is 1
unfoldable pub lowest : ℕ → ℕ → List Bool
lowest zero n = []
lowest (suc k) n = eqb (n % 2) 1 ∷ lowest k (n / 2)

unfoldable pub marks : ℕ → List Bool
marks row = lowest 64 row

-- place p is marked; no place from 64 on is
abbrev pub is_marked : ℕ → ℕ → Bool
is_marked row p = get_or (marks row) p false

-- ---- the row that has given marks

unfoldable pub row_of : List Bool → ℕ
row_of [] = 0
row_of (true ∷ bs) = row_of bs * 2 + 1
row_of (false ∷ bs) = row_of bs * 2

unfoldable pub with_mark : ℕ → ℕ → ℕ
with_mark row p = row_of (set (marks row) p true)

-- marked at p if the test says so
abbrev pub mark_if : ℕ → ℕ → Bool → ℕ
mark_if row p true = with_mark row p
mark_if row p false = row

-- a test at n places from k on
unfoldable pub tests : (ℕ → Bool) → ℕ → ℕ → List Bool
tests P k zero = []
tests P k (suc n) = P k ∷ tests P (k + 1) n

-- the row in which exactly the places that pass are marked
unfoldable pub row_where : (ℕ → Bool) → ℕ
row_where P = row_of (tests P 0 64)

-- the row in which exactly the places from len on are marked
unfoldable pub past_end : ℕ → ℕ
past_end len = row_where (leb len)

-- the row in which exactly the other places are marked
unfoldable pub turned : ℕ → ℕ
turned row = row_where (λ p. not (is_marked row p))
