-- What the loops along a list compute: how many pass, and the smallest that passes.
-- Assumes nothing.
use Rattle.std.specs.Prelude.{ℕ, zero, suc, ◌+◌, Bool, true, false, List, [], ◌∷◌, ltb, Option, Some, None}
use Rattle.meaning.specs.Numbers.{bit}

-- how many of a list pass
unfoldable pub count_in : (ℕ → Bool) → List ℕ → ℕ
count_in f [] = 0
count_in f (k ∷ ks) = bit (f k) + count_in f ks

-- the smaller of k and w, where w is 0 for none yet
abbrev pub smaller_by : Bool → ℕ → ℕ → ℕ
smaller_by true k w = k
smaller_by false k w = w

unfoldable pub smaller : ℕ → ℕ → ℕ
smaller k zero = k
smaller k (suc w) = smaller_by (ltb k (suc w)) k (suc w)

unfoldable pub smaller_if : Bool → ℕ → ℕ → ℕ
smaller_if true k w = smaller k w
smaller_if false k w = w

-- the same of a number that may be there
abbrev pub smaller_found : ℕ → Option ℕ → ℕ
smaller_found k None = k
smaller_found k (Some w) = smaller_by (ltb k w) k w

abbrev pub smaller_of : Bool → ℕ → Option ℕ → Option ℕ
smaller_of true k w = Some (smaller_found k w)
smaller_of false k w = w

-- the smallest of a list that passes, or w where that is smaller; 0 is none
unfoldable pub least_in : (ℕ → Bool) → List ℕ → ℕ → ℕ
least_in f [] w = w
least_in f (k ∷ ks) w = least_in f ks (smaller_if (f k) k w)
