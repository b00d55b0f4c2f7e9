-- What the rows say when the sweeps have ended: the struck pairs, the left table, and the ending.
-- Assumes nothing.
use Rattle.std.specs.Prelude.{ℕ, ◌-◌, ◌<◌, ◌≡◌, Bool, not, List, length, get_or}
use Rattle.std.proofs.Props.{props}
use Rattle.std.specs.Prelude.{Option as Found, Some, None}
use Rattle.std.proofs.Math.Option.{Option, none, some}
use Rattle.meaning.specs.Numbers.{In, ◌&◌}
use Rattle.meaning.specs.Lists.{place}
use Rattle.meaning.specs.Placement.{Order}
use Rattle.meaning.specs.Market.{Market, Table, mutual?, placed}
use Rattle.meaning.specs.Strikes.{Struck, left?}
use Rattle.meaning.specs.Endings.{Outcome, none_room, left_of}
use Rattle.rows.specs.Marks.{is_marked}
use Rattle.ranks.specs.View.{n_of, m_of, wishes_of, market_of, FullTables}
use Rattle.reasons.specs.Rows.{RowsHold}

-- the pairs that rows say are struck: the mutual ones whose place is marked
unfoldable pub struck_in : List ℕ → List ℕ → List ℕ → Struck
struck_in h e rows i j = mutual? (market_of h e) i j & is_marked (get_or rows i 0) (place (wishes_of h e i) j - 1)

-- the held pair is struck or isn't mutual
unfoldable pub broken_in : List ℕ → List ℕ → List ℕ → ℕ → ℕ → Bool
broken_in h e rows i j = not (left? (market_of h e) (struck_in h e rows) i j)

-- ---- what the answers of the ending's searches say

unfoldable pub broken_pair : Option Order → Found (ℕ × ℕ)
broken_pair none = None
broken_pair (some o) = Some (o.trainee, o.depot)

unfoldable pub room_of : Found (ℕ × ℕ) → Option Outcome
room_of (Some p) = some (none_room p.0 p.1)
room_of None = none

-- the left table of the rows
abbrev pub left_by : List ℕ → List ℕ → List ℕ → Table
left_by h e rows = left_of (market_of h e) (wishes_of h e) (struck_in h e rows)

-- the rows are those of a set of struck pairs
pub record Kept (h e rows : List ℕ) : Type 0 where
  pub tables : FullTables h e
  pub rows_long : n_of h < length rows
  pub rows_hold : RowsHold (market_of h e) (wishes_of h e) (struck_in h e rows) rows

-- rows are kept in one way at most, so that a ghost field can say so
rows-hold-prop : (K : Market) (lists : ℕ → List ℕ) (S : Struck) (rows : List ℕ) → IsProp (RowsHold K lists S rows)
unfolding RowsHold
rows-hold-prop K lists S rows = Prim.hlevel props

pub kept-prop : (h e rows : List ℕ) → IsProp (Kept h e rows)
kept-prop h e rows = Prim.hlevel (props, rows-hold-prop)

-- the counts of trainees by depot in the left table
abbrev pub Counted : List ℕ → List ℕ → List ℕ → List ℕ → Type 0
Counted h e rows counts = (j : ℕ) → In (m_of h) j → get_or counts j 0 ≡ placed (market_of h e) (left_by h e rows) j
