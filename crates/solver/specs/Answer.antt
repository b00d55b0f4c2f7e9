-- What the solver gives for lent tables (document 01, "Strikes and endings" and "Numbers given back"): the answer, the table and the record, guard by guard.
-- Assumes nothing.
use Rattle.std.specs.Prelude.{ℕ, true, false, List, [], length, Result, Ok, Err}
use Rattle.std.proofs.Math.Option.{Option, none, some}
use Rattle.rulings.specs.Held.{table_after, roomy}
use Rattle.meaning.specs.Placement.{Placement}
use Rattle.meaning.specs.Full.{Received, whole, lacking}
use Rattle.meaning.specs.Solver.{WholeRuling, head_of, ruled}
use Rattle.meaning.specs.Answers.{SHORT_PART, NOT_RECEIVED, NOT_READ, refusal}
use Rattle.meaning.specs.declared.Strike.{Strike}
use Rattle.meaning.specs.declared.Ruling.{Ruling}
use Rattle.meaning.specs.declared.Refusal.{Refusal}
use Rattle.tables.specs.Decode.{placement_of}
use Rattle.strikes.specs.Cells.{strikes_in, recorded}

-- all that is given back: the answer, the table as it is left, and the strikes that go into the record
pub record Given : Type 0 where
  pub answer : Result Ruling Refusal
  pub table : List ℕ
  pub strikes : List Strike

-- a refusal leaves the table as it was and records nothing
abbrev pub refusing : ℕ → ℕ → List ℕ → Given
refusing number line t = record { answer = Err (refusal number line); table = t; strikes = [] }

-- ---- the answer

-- number 7 gives the first line where something was not received; past it the meaning rules (that there always is a ruling is proved)
unfoldable pub solve_if_full : Received (Option WholeRuling) → List ℕ → Option Given
solve_if_full (lacking l) t = some (refusing NOT_RECEIVED l t)
solve_if_full (whole none) t = none
solve_if_full (whole (some w)) t = some (record { answer = Ok (head_of w); table = table_after w.outcome t; strikes = w.strikes })

unfoldable pub solve_if_read : Option Placement → List ℕ → Option Given
solve_if_read none t = some (refusing NOT_READ 0 t)
solve_if_read (some p) t = solve_if_full (ruled p) t

-- what is given for the tables h, e, o of a placement, a table t and a record with room: number 1 is tried first, then 8, then 7
unfoldable pub solve_of : List ℕ → List ℕ → List ℕ → List ℕ → ℕ → Option Given
solve_of h e o t room = elim (roomy h e o (length t) room) [ true ↦ solve_if_read (placement_of h e o) t | false ↦ some (refusing SHORT_PART 0 t) ]

-- what a call gave, read off its answer, its table and its cells
abbrev pub given_by : Result Ruling Refusal → List ℕ → List ℕ → Given
given_by r t cells = record { answer = r; table = t; strikes = strikes_in cells (recorded r) }
