-- The four reasons, as they are read off tables and rows.
-- Assumes nothing.
use Rattle.std.specs.Prelude.{ℕ, zero, suc, ◌+◌, ◌-◌, Bool, true, false, List, get_or, take, ltb, leb}
use Rattle.std.proofs.Math.Option.{Option, none, some}
use Rattle.reasons.specs.Scans.{count_in, least_in}
use Rattle.meaning.specs.Numbers.{◌&◌, bit}
use Rattle.meaning.specs.Lists.{place}
use Rattle.meaning.specs.Solver.{lowest}
use Rattle.rows.specs.Marks.{is_marked, with_mark, turned}
use Rattle.rows.specs.Left.{first_place_left}
use Rattle.ranks.specs.View.{wishes_of, ranking_of, posts_of}
use Rattle.meaning.specs.declared.Reason.{Reason}

-- k ranks j, and j's place is at most a more than the places before the first left:
-- with a 1, everything that k ranks above j is struck; with a 0, everything down to j
unfoldable pub settled : List ℕ → List ℕ → List ℕ → ℕ → ℕ → ℕ → Bool
settled h e rows a j k = ltb 0 (place (wishes_of h e k) j) & leb (place (wishes_of h e k) j) (first_place_left (get_or rows k 0) + a)

-- how settled k is with j: 0 not, 1 above j, 2 down to j
unfoldable pub settled_by : Bool → Bool → ℕ
settled_by above down = bit above + bit down

-- the part of j's list above i
unfoldable pub above_of : List ℕ → List ℕ → ℕ → ℕ → List ℕ
above_of h e i j = take (place (ranking_of h e j) i - 1) (ranking_of h e j)

-- ---- the lowest reason

-- none for 0
unfoldable pub number_or : ℕ → Option ℕ
number_or zero = none
number_or (suc k) = some (suc k)

-- the place of a row that is found, as a depot; none for 64
unfoldable pub depot_at : ℕ → Option ℕ
depot_at p = elim (ltb p 64) [ true ↦ some (p + 1) | false ↦ none ]

-- the smallest depot other than j at which the row says that a trainee is held
unfoldable pub held_elsewhere : ℕ → ℕ → Option ℕ
held_elsewhere row j = depot_at (first_place_left (with_mark (turned row) (j - 1)))

unfoldable pub choice_in : List ℕ → List ℕ → List ℕ → List ℕ → List ℕ → ℕ → ℕ → Option Reason
choice_in h e holds bars rows i j =
    lowest
    (is_marked (get_or bars i 0) (j - 1))
    (held_elsewhere (get_or holds i 0) j)
    (leb (posts_of h j) (count_in (settled h e rows 1 j) (above_of h e i j)))
    (number_or (least_in (settled h e rows 0 j) (above_of h e i j) 0))
