-- Strikes in plain cells, four to a strike: trainee, depot, reason, witness. Assumes nothing.
use Rattle.std.specs.Prelude.{ℕ, zero, suc, ◌+◌, ◌*◌, min, List, [], ◌∷◌, ◌++◌, get_or, take, drop, Result, Ok, Err}
use Rattle.meaning.specs.declared.Reason.{Reason}
use Rattle.meaning.specs.declared.Ruling.{Ruling}
use Rattle.meaning.specs.declared.Refusal.{Refusal}
use Rattle.meaning.specs.declared.Strike.{Strike}
use Rattle.meaning.specs.Answers.{reason_of, strike_numbers}

-- the strike that cells hold at k, counted from 0
unfoldable pub strike_at : List ℕ → ℕ → Strike
strike_at cells k = record {
  trainee = get_or cells (4 * k) 0;
  depot = get_or cells (4 * k + 1) 0;
  reason = reason_of (get_or cells (4 * k + 2) 0) (get_or cells (4 * k + 3) 0);
}

-- the first `count` strikes that cells hold, oldest first
unfoldable pub strikes_in : List ℕ → ℕ → List Strike
strikes_in cells zero = []
strikes_in cells (suc k) = strikes_in cells k ++ (strike_at cells k ∷ [])

-- cells with a strike put at k
unfoldable pub cells_with : List ℕ → ℕ → Strike → List ℕ
cells_with cells k s = take (4 * k) cells ++ (strike_numbers s ++ drop (4 * k + 4) cells)

-- the cells of strikes, one after the other
unfoldable pub cells_of : List Strike → List ℕ
cells_of [] = []
cells_of (s ∷ ss) = strike_numbers s ++ cells_of ss

-- a record with its front filled by the first `count` strikes that cells hold, and the rest as it was
abbrev pub filled : List ℕ → List Strike → ℕ → List Strike
filled cells log count = strikes_in cells count ++ drop count log

-- cells with their front filled by the first `count` strikes of a record, and the rest as it was
abbrev pub flat : List Strike → List ℕ → ℕ → List ℕ
flat log cells count = cells_of (take count log) ++ drop (4 * count) cells

-- what stands past a record's end
abbrev pub blank : Strike
blank = record { trainee = 0; depot = 0; reason = Reason.Barred }

-- the strike at k of a record, counted from 0
abbrev pub at : List Strike → ℕ → Strike
at ss k = get_or ss k blank

-- how many strikes an answer leaves in the record: none where it refuses
unfoldable pub recorded : Result Ruling Refusal → ℕ
recorded (Ok r) = r.strikes
recorded (Err r) = 0

-- how many of `count` strikes to take out of a record of this length: no more than it has, and no more than its full size
abbrev pub taken : ℕ → ℕ → ℕ
taken count room = min count (min room 4096)
