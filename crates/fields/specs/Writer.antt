-- How a text is written: the fields and lines that both texts have.
-- Assumes nothing.
use Rattle.std.specs.Prelude.{ℕ, zero, suc, ◌+◌, List, [], ◌∷◌, ◌++◌}
use Rattle.fields.specs.Bytes.{TAB, LF}
use Rattle.fields.specs.Number.{digits_of}

-- a number as a field, with the tab before it
unfoldable pub write_number : ℕ → List ℕ
write_number v = TAB ∷ digits_of v

-- numbers, a field each
unfoldable pub write_numbers : List ℕ → List ℕ
write_numbers [] = []
write_numbers (v ∷ vs) = write_number v ++ write_numbers vs

-- a line: a word, and then numbers
unfoldable pub write_line : List ℕ → List ℕ → List ℕ
write_line w vs = w ++ write_numbers vs ++ LF ∷ []

-- the lines of the numbers i, i + 1, ..
unfoldable pub write_lines : {A : Type 0} → (ℕ → A → List ℕ) → ℕ → List A → List ℕ
write_lines f i [] = []
write_lines f i (x ∷ xs) = f i x ++ write_lines f (i + 1) xs

-- d lines, each by its number: g i, g (i + 1), ..
unfoldable pub lines_by : (ℕ → List ℕ) → ℕ → ℕ → List ℕ
lines_by g i zero = []
lines_by g i (suc d) = g i ++ lines_by g (i + 1) d
