-- Numbers as digits: 1 to 5 of them, and no leading zero unless the number is 0 (document 01, "The two texts").
-- Assumes nothing.
use Rattle.std.specs.Prelude.{ℕ, zero, suc, ◌+◌, ◌-◌, ◌*◌, ◌/◌, ◌%◌, Bool, true, false, not, List, [], ◌∷◌, ◌++◌, length, ltb, leb, eqb}
use Rattle.std.proofs.Math.Option.{Option, none, some}
use Rattle.meaning.specs.Numbers.{◌&◌}

-- ---- written

-- the digits of v; k bounds how many follow the first
unfoldable pub digits : ℕ → ℕ → List ℕ
digits zero v = (48 + v) ∷ []
digits (suc k) v = elim (ltb v 10) [ true ↦ (48 + v) ∷ [] | false ↦ digits k (v / 10) ++ (48 + v % 10) ∷ [] ]

-- a number has fewer digits than it counts
unfoldable pub digits_of : ℕ → List ℕ
digits_of v = digits v v

-- the last digit of q, none where q is 0: with v / 10, v / 100 and so on for q, the digits of v before its last
unfoldable pub last_digit : ℕ → List ℕ
last_digit q = elim (ltb 0 q) [ true ↦ (48 + q % 10) ∷ [] | false ↦ [] ]

-- ---- read

unfoldable pub digit? : ℕ → Bool
digit? b = leb 48 b & leb b 57

-- the value of v followed by the digits w
unfoldable pub value : ℕ → List ℕ → Option ℕ
value v [] = some v
value v (b ∷ w) = elim (digit? b) [ true ↦ value (v * 10 + (b - 48)) w | false ↦ none ]

-- not empty, and no leading zero
unfoldable pub leads : List ℕ → Bool
leads [] = false
leads (b ∷ []) = true
leads (b ∷ c ∷ w) = not (eqb b 48)

unfoldable pub number_of : List ℕ → Option ℕ
number_of w = elim (leads w & leb (length w) 5) [ true ↦ value 0 w | false ↦ none ]
