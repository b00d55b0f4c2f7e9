-- What a call of the C interface returns and leaves behind: the numbers of its answer (meaning's specs/Answers) over the front of the answer's cells, how many they are, and every other cell that was lent to be changed.
-- Assumes nothing.
use Rattle.std.specs.Prelude.{ℕ, ◌/◌, true, false, List, [], ◌∷◌, length, leb}
use Rattle.std.proofs.Math.Option.{Option, none, some}
use Rattle.meaning.specs.Answers.{reading_numbers, writing_numbers, receipt_numbers, tested_numbers, ruled_numbers}
use Rattle.tables.specs.Cells.{laid}
use Rattle.tables.specs.Answers.{trainee_receipt}
use Rattle.placement_reader.specs.Reading.{Reads, reading_of}
use Rattle.placement_writer.specs.Writing.{Writes, writing_of}
use Rattle.stability.specs.Test.{test_of}
use Rattle.strikes.specs.Cells.{cells_of}
use Rattle.solver.specs.Answer.{Given, solve_of}

-- the number that is returned, the answer's cells, and the other parts lent to be changed, in the order of the parameters
pub record Call : Type 0 where
  pub count : ℕ
  pub answer : List ℕ
  pub parts : List (List ℕ)

abbrev pub call : ℕ → List ℕ → List (List ℕ) → Call
call count answer parts = record { count = count; answer = answer; parts = parts }

-- the numbers of an answer over the front of its cells
abbrev pub answered : List ℕ → List ℕ → List (List ℕ) → Call
answered numbers answer parts = call (length numbers) (laid numbers answer) parts

-- an answer needs 8 cells: what is given with fewer, and what with enough
unfoldable pub in_eight : {A : Type 0} → List ℕ → A → A → A
in_eight answer fewer enough = elim (leb 8 (length answer)) [ true ↦ enough | false ↦ fewer ]

-- ---- each function; with fewer than 8 cells it returns 0 and nothing changes

abbrev pub after_reading : Reads → List ℕ → Call
after_reading x a = answered (reading_numbers x.answer) a (x.heads ∷ x.entries ∷ x.orders ∷ [])

unfoldable pub read_call : List ℕ → List ℕ → List ℕ → List ℕ → List ℕ → Call
read_call s h e o a = in_eight a (call 0 a (h ∷ e ∷ o ∷ [])) (after_reading (reading_of s h e o) a)

abbrev pub after_writing : Writes → List ℕ → Call
after_writing x a = answered (writing_numbers x.answer) a (x.out ∷ [])

unfoldable pub write_call : List ℕ → List ℕ → List ℕ → List ℕ → List ℕ → Call
write_call h e o out a = in_eight a (call 0 a (out ∷ [])) (after_writing (writing_of h e o out) a)

unfoldable pub receipt_call : List ℕ → List ℕ → List ℕ → ℕ → List ℕ → Call
receipt_call h e o i a = in_eight a (call 0 a []) (answered (receipt_numbers (trainee_receipt h e o i)) a [])

unfoldable pub test_call : List ℕ → List ℕ → List ℕ → ℕ → List ℕ → List ℕ → Call
test_call h e o n t a = in_eight a (call 0 a []) (answered (tested_numbers (test_of h e o n t)) a [])

-- the strikes go over the front of the cells, four numbers to a strike
unfoldable pub after_solving : Option Given → List ℕ → List ℕ → Option Call
after_solving none c a = none
after_solving (some g) c a = some (answered (ruled_numbers g.answer) a (g.table ∷ laid (cells_of g.strikes) c ∷ []))

-- cells have room for a strike in each four (that there always is a ruling is proved)
unfoldable pub solve_call : List ℕ → List ℕ → List ℕ → List ℕ → List ℕ → List ℕ → Option Call
solve_call h e o t c a = in_eight a (some (call 0 a (t ∷ c ∷ []))) (after_solving (solve_of h e o t (length c / 4)) c a)
