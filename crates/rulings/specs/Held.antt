-- A ruling in memory (document 01, "The two texts" and "Numbers given back"): what its head, its table and its record say, and the tests of numbers 1 and 8.
-- Assumes nothing.
use Rattle.std.specs.Prelude.{ℕ, Bool, List, length, take, leb, eqb}
use Rattle.meaning.specs.Numbers.{◌&◌}
use Rattle.meaning.specs.Endings.{Outcome, placed_by, none_held, none_room}
use Rattle.meaning.specs.Solver.{WholeRuling}
use Rattle.meaning.specs.declared.Strike.{Strike}
use Rattle.meaning.specs.declared.Ending.{Ending}
use Rattle.meaning.specs.declared.Ending.TheVariants.{Placed, NoneHeld, NoneRoom}
use Rattle.meaning.specs.declared.Ruling.{Ruling}
use Rattle.tables.specs.Cells.{laid}
use Rattle.tables.specs.Answers.{sized}
use Rattle.rulings.specs.Legal.{legal_ruling?}

-- ---- what a ruling in memory says

-- the outcome of an ending beside its table; without a table none of its cells is used
unfoldable pub outcome_in : ℕ → Ending → List ℕ → Outcome
outcome_in n Placed table = placed_by (take n table)
outcome_in n (NoneHeld i j) table = none_held i j
outcome_in n (NoneRoom i j) table = none_room i j

-- the ruling that a head, a table and these strikes say
unfoldable pub ruling_in : Ruling → List ℕ → List Strike → WholeRuling
ruling_in r table strikes = record { trainees = r.trainees; strikes = strikes; outcome = outcome_in r.trainees r.ending table }

-- ---- what a ruling leaves in memory

-- a ruling's table over the front of a table; a none leaves the table as it is
unfoldable pub table_after : Outcome → List ℕ → List ℕ
table_after (placed_by l) t = laid l t
table_after (none_held i j) t = t
table_after (none_room i j) t = t

-- ---- number 1

-- each lent part has the full size of its table, and the record has room for 4,096 strikes
unfoldable pub roomy : List ℕ → List ℕ → List ℕ → ℕ → ℕ → Bool
roomy h e o cells room = sized h e o & (leb 256 cells & leb 4096 room)

-- ---- number 8

-- a reader could have filled a head, a table and these strikes: the head counts them, and the ruling is legal
unfoldable pub readable? : Ruling → List ℕ → List Strike → Bool
readable? r table strikes = eqb r.strikes (length strikes) & legal_ruling? (ruling_in r table strikes)
