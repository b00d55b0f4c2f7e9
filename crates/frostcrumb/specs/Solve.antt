-- What a call of solve leaves behind (document 01, "Strikes and endings"): the answer, the table and the record.
-- Assumes nothing.
use Rattle.std.specs.Prelude.{ℕ, List, ◌++◌, length, drop}
use Rattle.std.proofs.Math.Option.{Option, none, some}
use Rattle.meaning.specs.declared.Strike.{Strike}
use Rattle.std.specs.Prelude.{Result}
use Rattle.meaning.specs.declared.Refusal.{Refusal}
use Rattle.meaning.specs.declared.Ruling.{Ruling}
use Rattle.solver.specs.Answer.{Given, solve_of}

-- the answer, and every lent cell as it is left
pub record Left : Type 0 where
  pub answer : Result Ruling Refusal
  pub table : List ℕ
  pub log : List Strike

-- the strikes go over the record's front; what is past them stays
abbrev pub leaving : Given → List Strike → Left
leaving g log = record { answer = g.answer; table = g.table; log = g.strikes ++ drop (length g.strikes) log }

unfoldable pub leaving_if : Option Given → List Strike → Option Left
leaving_if none log = none
leaving_if (some g) log = some (leaving g log)

-- what solve leaves for the tables h, e, o of a placement, a table t and a record
unfoldable pub solving : List ℕ → List ℕ → List ℕ → List ℕ → List Strike → Option Left
solving h e o t log = leaving_if (solve_of h e o t (length log)) log

-- a call's answer, table and record, side by side
abbrev pub left : Result Ruling Refusal → List ℕ → List Strike → Left
left r t log = record { answer = r; table = t; log = log }
