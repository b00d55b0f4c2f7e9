-- What is promised of a ruling that solve gives (demand 3), in one record.
-- Assumes nothing.
use Rattle.std.specs.Prelude.{ℕ, ◌≡◌, List, ◌++◌, length, drop}
use Rattle.std.proofs.Math.Option.{some}
use Rattle.meaning.specs.Placement.{Placement}
use Rattle.meaning.specs.Full.{Full, whole, full}
use Rattle.meaning.specs.Solver.{WholeRuling, head_of}
use Rattle.meaning.specs.Demands.{SolverKeeps}
use Rattle.meaning.specs.declared.Strike.{Strike}
use Rattle.meaning.specs.declared.Ruling.{Ruling}
use Rattle.tables.specs.Decode.{placement_of}
use Rattle.rulings.specs.Held.{table_after}
use Rattle.frostcrumb.specs.Solve.{Left}

-- r is the ruling for the tables h, e, o of a placement; it left the table t and the record log as l says
pub record SolveKeeps (h e o t : List ℕ) (log : List Strike) (l : Left) (r : Ruling) : Type 0 where
  -- the tables hold a placement with everything received
  pub placement : Placement
  pub its_full : Full
  pub held : placement_of h e o ≡ some placement
  pub received : full placement ≡ whole its_full
  -- the ruling with its strikes and its outcome is what the answer, the record and the table say
  pub ruling : WholeRuling
  pub head : r ≡ head_of ruling
  pub strikes : l.log ≡ ruling.strikes ++ drop (length ruling.strikes) log
  pub table : l.table ≡ table_after ruling.outcome t
  -- and it keeps what demand 3 asks
  pub keeps : SolverKeeps placement its_full ruling
