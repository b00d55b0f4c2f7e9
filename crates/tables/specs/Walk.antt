-- What the steps of the walks over the tables are promised against. Assumes nothing.
use Rattle.std.specs.Prelude.{ℕ, zero, suc, ◌+◌, ◌≤◌, ◌≡◌, Bool, true, false, List, drop, get_or, eqb}
use Rattle.std.proofs.Math.Option.{Option, none, some}
use Rattle.meaning.specs.Numbers.{◌&◌, ◌or◌}
use Rattle.tables.specs.Cells.{missing_cell, trainee_start, depot_start}
use Rattle.tables.specs.Decode.{posts_from}
use Rattle.std.specs.Prelude.{Option as Answer, Some, None}

abbrev pub is_some : {A : Type 0} → Option A → Bool
is_some none = false
is_some (some a) = true

-- where the entries end that start at s
abbrev pub end_of : {A : Type 0} → (A → ℕ) → ℕ → Option A → Option ℕ
end_of w s none = none
end_of w s (some a) = some (s + w a)

-- the answer is that end, which is no further than `most`; or there is none
abbrev pub Ends : ℕ → Option ℕ → Answer ℕ → Type 0
Ends most o (Some t) = (o ≡ some t) × (t ≤ most)
Ends most o None = o ≡ none

-- the posts of each of d depots, whose cells are in front, are in range, or not received
unfoldable pub all_posts : ℕ → List ℕ → Bool
all_posts zero hs = true
all_posts (suc d) hs = is_some (posts_from (get_or hs 2 0)) & all_posts d (drop 3 hs)

-- ---- the first line where something was not received, read off the heads

-- of d numbers from i on, the line of the first that lacks something, i's line being base + i; 0 for none
unfoldable pub first_line : (ℕ → Bool) → ℕ → ℕ → ℕ → ℕ
first_line lacks base zero i = 0
first_line lacks base (suc d) i = elim (lacks i) [ true ↦ base + i | false ↦ first_line lacks base d (i + 1) ]

unfoldable pub trainee_missing : List ℕ → ℕ → Bool
trainee_missing h i = eqb (get_or h (trainee_start i + 1) 0) missing_cell

unfoldable pub depot_missing : List ℕ → ℕ → ℕ → Bool
depot_missing h n j = eqb (get_or h (depot_start n j + 2) 0) missing_cell or eqb (get_or h (depot_start n j + 1) 0) missing_cell
