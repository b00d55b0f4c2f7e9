-- The stability test of lent tables (document 01, "The stability test takes a table alone" and "Numbers given back"): what is answered, guard by guard.
-- Assumes nothing.
use Rattle.std.specs.Prelude.{ℕ, Bool, true, false, List, [], ◌∷◌, length, take, leb, eqb, Result, Ok, Err}
use Rattle.std.proofs.Math.Option.{Option, none, some}
use Rattle.meaning.specs.Numbers.{◌&◌}
use Rattle.meaning.specs.Placement.{Placement}
use Rattle.meaning.specs.Full.{Full, Received, whole, lacking, full}
use Rattle.meaning.specs.Answers.{SHORT_PART, NOT_RECEIVED, NOT_READ, refusal}
use Rattle.meaning.specs.Stability.{test}
use Rattle.meaning.specs.declared.Tested.{Tested}
use Rattle.meaning.specs.declared.Refusal.{Refusal}
use Rattle.tables.specs.Decode.{placement_of}
use Rattle.tables.specs.Answers.{sized}

-- ---- number 1

-- each lent part has the full size of its table
unfoldable pub long_enough : List ℕ → List ℕ → List ℕ → List ℕ → Bool
long_enough h e o t = sized h e o & leb 256 (length t)

-- ---- number 8

-- each cell is 0, for no depot, or a depot that can have been read: 1 to 64, whatever the placement's number of depots
unfoldable pub read_depots : List ℕ → Bool
read_depots [] = true
read_depots (j ∷ js) = leb j 64 & read_depots js

-- the table is of as many trainees as the placement, and a reader could have filled its used cells
unfoldable pub read_beside : Placement → ℕ → List ℕ → Bool
read_beside p n t = eqb n (length p.trainees) & read_depots (take n t)

-- the same where there may be no placement
unfoldable pub read_with : Option Placement → ℕ → List ℕ → Bool
read_with none n t = false
read_with (some p) n t = read_beside p n t

-- ---- the answer

-- number 7 gives the first line where something was not received; past it the meaning decides
unfoldable pub test_if_full : Received Full → List ℕ → Result Tested Refusal
test_if_full (lacking l) cells = Err (refusal NOT_RECEIVED l)
test_if_full (whole F) cells = Ok (test F cells)

unfoldable pub test_if_read : Option Placement → ℕ → List ℕ → Result Tested Refusal
test_if_read none n t = Err (refusal NOT_READ 0)
test_if_read (some p) n t = elim (read_beside p n t) [ true ↦ test_if_full (full p) (take n t) | false ↦ Err (refusal NOT_READ 0) ]

-- what is answered for the tables h, e, o of a placement and a table t of n trainees: number 1 is tried first, then 8, then 7
unfoldable pub test_of : List ℕ → List ℕ → List ℕ → ℕ → List ℕ → Result Tested Refusal
test_of h e o n t = elim (long_enough h e o t) [ true ↦ test_if_read (placement_of h e o) n t | false ↦ Err (refusal SHORT_PART 0) ]
