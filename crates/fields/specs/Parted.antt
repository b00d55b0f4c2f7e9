-- A list of bytes cut at a byte: a text into its lines at byte 10, a line into its fields at byte 9 (document 01, "The two texts").
-- Assumes nothing.
use Rattle.std.specs.Prelude.{ℕ, true, false, List, [], ◌∷◌, eqb}

-- a byte before the first part
unfoldable pub before : ℕ → List (List ℕ) → List (List ℕ)
before b [] = (b ∷ []) ∷ []
before b (w ∷ ws) = (b ∷ w) ∷ ws

-- the parts between the bytes `at`; what follows the last of these is a part too, empty where nothing follows
unfoldable pub parted : ℕ → List ℕ → List (List ℕ)
parted at [] = [] ∷ []
parted at (b ∷ s) = elim (eqb b at) [ true ↦ [] ∷ parted at s | false ↦ before b (parted at s) ]
