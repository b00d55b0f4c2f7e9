-- The checker's answer (document 01, "Strikes and endings", "The checker takes .."): any order, any witness that fits, and the record needn't be exhausted.
-- Assumes nothing.
use Rattle.std.specs.Prelude.{ℕ, suc, Bool, true, false, List, [], ◌∷◌, ◌++◌}
use Rattle.meaning.specs.Placement.{Order}
use Rattle.meaning.specs.Full.{Full}
use Rattle.meaning.specs.Market.{Market, Standing, market, standing, trainee_list}
use Rattle.meaning.specs.Strikes.{nothing, allowed_strike, struck}
use Rattle.meaning.specs.Endings.{Outcome, outcome_fits}
use Rattle.meaning.specs.Solver.{WholeRuling}
use Rattle.meaning.specs.declared.Strike.{Strike}
use Rattle.std.specs.Prelude.{Result, Ok, Err}
use Rattle.meaning.specs.declared.Rejection.{Rejection}
use Rattle.meaning.specs.declared.Rejection.TheVariants.{NotAllowed}

-- what is answered at a step, by whether it is allowed
abbrev pub step_by : ℕ → Bool → Result (Unit {0}) Rejection → Result (Unit {0}) Rejection
step_by k true rest = rest
step_by k false rest = Err (NotAllowed k)

-- the strikes xs after the record in hand, the first of them step k; the ending is the step after the last strike
unfoldable pub check_from : Market → (ℕ → List ℕ) → Standing → List Order → Outcome → List Strike → List Strike → ℕ → Result (Unit {0}) Rejection
check_from K lists O os e rec [] k = step_by k (outcome_fits K lists O os (struck nothing rec) e) (Ok tt)
check_from K lists O os e rec (x ∷ xs) k = step_by k (allowed_strike K O (struck nothing rec) x) (check_from K lists O os e (rec ++ (x ∷ [])) xs (suc k))

-- accepted, or the number of the first step that isn't allowed
unfoldable pub check : Full → List Order → WholeRuling → Result (Unit {0}) Rejection
check F os r = check_from (market F) (trainee_list F) (standing os) os r.outcome [] r.strikes 1
