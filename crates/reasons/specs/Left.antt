-- What rows leave: which pairs are open, and the left table.
-- Assumes nothing.
use Rattle.std.specs.Prelude.{ℕ, ◌+◌, ◌-◌, ◌≤◌, ◌<◌, ◌≡◌, Bool, not, List, length, get_or, ltb}
use Rattle.meaning.specs.Numbers.{◌&◌}
use Rattle.meaning.specs.Lists.{place}
use Rattle.rows.specs.Marks.{is_marked}
use Rattle.rows.specs.Left.{first_place_left}
use Rattle.ranks.specs.View.{wishes_of}

-- j stands on i's list at a place without a mark
unfoldable pub open_at : List ℕ → List ℕ → List ℕ → ℕ → ℕ → Bool
open_at h e rows i j = ltb 0 (place (wishes_of h e i) j) & not (is_marked (get_or rows i 0) (place (wishes_of h e i) j - 1))

-- the depot at the first place left of trainee i's list; 0 where none is left
unfoldable pub left_cell : List ℕ → List ℕ → List ℕ → ℕ → ℕ
left_cell h e rows i = get_or (wishes_of h e i) (first_place_left (get_or rows i 0)) 0

-- a table filled below k with the left table, and untouched from k on
pub record LaidTo (h e rows : List ℕ) (old : List ℕ) (k : ℕ) (table : List ℕ) : Type 0 where
  pub long : length table ≡ length old
  pub filled : (q : ℕ) → q < k → get_or table q 0 ≡ left_cell h e rows (q + 1)
  pub untouched : (q : ℕ) → k ≤ q → get_or table q 0 ≡ get_or old q 0
