-- The first place of a row that is left, and how many are marked and left: left is what isn't marked.
-- Assumes nothing.
use Rattle.std.specs.Prelude.{ℕ, suc, ◌-◌, Bool, true, false, List, [], ◌∷◌}
use Rattle.rows.specs.Marks.{marks}

-- the first place without a mark, the length where all have one
unfoldable pub first_without : List Bool → ℕ
first_without [] = 0
first_without (true ∷ bs) = suc (first_without bs)
first_without (false ∷ bs) = 0

-- how many places have a mark
unfoldable pub count_marks : List Bool → ℕ
count_marks [] = 0
count_marks (true ∷ bs) = suc (count_marks bs)
count_marks (false ∷ bs) = count_marks bs

-- 64 where none is left
unfoldable pub first_place_left : ℕ → ℕ
first_place_left row = first_without (marks row)

unfoldable pub number_marked : ℕ → ℕ
number_marked row = count_marks (marks row)

unfoldable pub number_left : ℕ → ℕ
number_left row = 64 - number_marked row
