-- How a ruling is written (document 01, "The two texts").
-- Assumes nothing.
use Rattle.std.specs.Prelude.{ℕ, List, [], ◌∷◌, ◌++◌, length}
use Rattle.meaning.specs.Answers.{strike_numbers}
use Rattle.meaning.specs.Endings.{Outcome, placed_by, none_held, none_room}
use Rattle.meaning.specs.Solver.{WholeRuling}
use Rattle.meaning.specs.declared.Strike.{Strike}
use Rattle.fields.specs.Bytes.{LF, word_end}
use Rattle.fields.specs.Writer.{write_line, write_lines}
use Rattle.ruling_text.specs.Words.{word_ruling, word_S, word_A, word_N}

-- trainee, depot, reason, witness; strikes have no running number
unfoldable pub write_strike : ℕ → Strike → List ℕ
write_strike k x = write_line word_S (strike_numbers x)

-- trainee i has the depot j, 0 for none
unfoldable pub write_cell : ℕ → ℕ → List ℕ
write_cell i j = write_line word_A (i ∷ j ∷ [])

-- kind, trainee, depot
unfoldable pub write_none : ℕ → ℕ → ℕ → List ℕ
write_none k i j = write_line word_N (k ∷ i ∷ j ∷ [])

-- a line for each trainee, or one line that says why there is no table
unfoldable pub write_outcome : Outcome → List ℕ
write_outcome (placed_by l) = write_lines write_cell 1 l
write_outcome (none_held i j) = write_none 1 i j
write_outcome (none_room i j) = write_none 2 i j

-- edition, number of trainees, number of strikes
unfoldable pub write_head : ℕ → ℕ → List ℕ
write_head n s = write_line word_ruling (1 ∷ n ∷ s ∷ [])

abbrev pub write_end : List ℕ
write_end = word_end ++ LF ∷ []

-- the number of strikes is the length of the record
unfoldable pub ruling_text : WholeRuling → List ℕ
ruling_text r =
    write_head r.trainees (length r.strikes) ++ write_lines write_strike 1 r.strikes ++ write_outcome r.outcome ++ write_end
