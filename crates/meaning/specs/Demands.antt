-- What is promised of the solver and the checker for a placement (demand 3), each in one record.
-- Assumes nothing.
use Rattle.std.specs.Prelude.{ℕ, ◌≤◌, ◌≡◌, List, [], length}
use Rattle.std.proofs.Math.Option.{some}
use Rattle.meaning.specs.Placement.{Placement}
use Rattle.meaning.specs.Full.{Full, whole}
use Rattle.meaning.specs.Market.{trainee_list, market, standing, Table, Respecting}
use Rattle.meaning.specs.Strikes.{nothing, struck, Exhausted, mutual_pairs}
use Rattle.meaning.specs.Endings.{placed_by}
use Rattle.meaning.specs.Solver.{rows_by, LowestRecord, visit, strikes_of, WholeRuling, head_of, ruled}
use Rattle.meaning.specs.Checker.{check}
use Rattle.meaning.specs.Truth.{TrueRuling, FirstNamed, Checks}
use Rattle.std.specs.Prelude.{Result, Ok}
use Rattle.meaning.specs.declared.Rejection.{Rejection}

-- r is the solver's ruling on a placement p whose full form is F
pub record SolverKeeps (p : Placement) (F : Full) (r : WholeRuling) : Type 0 where
  -- the placement is ruled so
  pub rules : ruled p ≡ whole (some r)
  pub trainees : r.trainees ≡ length p.trainees
  -- the table is the best respecting matching, or there is none; every pair struck is in none
  pub true_ruling : TrueRuling (market F) (standing p.orders) r
  -- if there is a respecting matching a table is ruled
  pub placed_if : (M : Table) → Respecting (market F) (standing p.orders) M → (l : List ℕ) × (r.outcome ≡ placed_by l)
  -- each strike had the lowest reason and then the smallest witness when it was made
  pub lowest : LowestRecord (market F) (standing p.orders) nothing r.strikes
  -- one more sweep adds nothing, since nothing more may be struck
  pub one_more : rows_by (visit (market F) (standing p.orders) nothing) (trainee_list F) (market F).n 1 r.strikes ≡ r.strikes
  pub exhausted : Exhausted (market F) (standing p.orders) (struck nothing r.strikes)
  -- the number of strikes is the record's length, and no more than there are mutual pairs
  pub counted : (head_of r).strikes ≡ length (strikes_of F p.orders)
  pub few : length r.strikes ≤ mutual_pairs (market F)
  -- a none names the first pair of its kind
  pub first : FirstNamed (market F) (trainee_list F) p.orders (struck nothing r.strikes) r.outcome
  -- the checker accepts it
  pub accepted_by : check F p.orders r ≡ Ok tt

-- c is the checker's answer to a ruling r on a placement p whose full form is F
pub record CheckerKeeps (p : Placement) (F : Full) (r : WholeRuling) (c : Result (Unit {0}) Rejection) : Type 0 where
  -- which steps are allowed, and which is the first that isn't
  pub says : Checks (market F) (trainee_list F) (standing p.orders) p.orders r.outcome [] 1 r.strikes c
  -- what is accepted is true
  pub true_if : c ≡ Ok tt → TrueRuling (market F) (standing p.orders) r
