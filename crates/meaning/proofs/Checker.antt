-- The checker's answer says which steps are allowed; what it accepts is true, and it accepts the solver's own ruling.
-- Assumes nothing.
use Prim.Native.Nat.{ℕ, suc}
use mathlib.Core.Path.{◌≡◌, refl, subst}
use mathlib.Core.Bool.{Bool, true, false}
use mathlib.Core.Option.{some}
use mathlib.Core.List.{List, [], ◌∷◌, ◌++◌, append_assoc, append-nil}
use native.Mathlib.Omega.{arith}
use Rattle.meaning.specs.Placement.{Order}
use Rattle.meaning.specs.Full.{Full}
use Rattle.meaning.specs.Market.{Market, trainee_list, market, Standing, standing}
use Rattle.meaning.specs.Strikes.{nothing, allowed_strike, struck, AllowedRecord, start, AllowedFrom, end, next}
use Rattle.meaning.specs.Endings.{Outcome, outcome_fits}
use Rattle.meaning.specs.Solver.{WholeRuling, solve}
use Rattle.meaning.specs.Checker.{step_by, check_from, check}
use Rattle.meaning.specs.Truth.{TrueRuling, FirstWrong, wrong_strike, wrong_ending, Checks, accepted, not_allowed}
use Rattle.meaning.proofs.Full.{LegalFull, LegalOrders}
use Rattle.meaning.proofs.Records.{record-on, record-from}
use Rattle.meaning.proofs.Solver.{allowed-true, solved-allowed, solved-fits}
use Rattle.meaning.specs.declared.Strike.{Strike}
use Rattle.std.specs.Prelude.{Result, Ok}
use Rattle.meaning.specs.declared.Rejection.{Rejection}

-- ---- what the answer says

module _ (K : Market) (lists : ℕ → List ℕ) (O : Standing) (os : List Order) (e : Outcome) where
  pub checks : (rec xs : List Strike) (step : ℕ) → Checks K lists O os e rec step xs (check_from K lists O os e rec xs step)
  unfolding check_from
  checks rec [] step = go (outcome_fits K lists O os (struck nothing rec) e) refl
    where
      go : (b : Bool) → outcome_fits K lists O os (struck nothing rec) e ≡ b → Checks K lists O os e rec step [] (step_by step b (Ok tt))
      go true t = accepted end (rw append-nil t)
      go false u =
          not_allowed step (subst (FirstWrong K lists O os e rec step []) (omega arith) (wrong_ending [] end (rw append-nil u)))
  checks rec (x ∷ xs) step = go (allowed_strike K O (struck nothing rec) x) refl (check_from K lists O os e (rec ++ (x ∷ [])) xs (suc step)) (checks (rec ++ (x ∷ [])) xs (suc step))
    where
      later : (ys : List Strike) (k : ℕ) → allowed_strike K O (struck nothing rec) x ≡ true
          → FirstWrong K lists O os e (rec ++ (x ∷ [])) (suc step) ys k → FirstWrong K lists O os e rec step (x ∷ ys) k
      later _ _ t (wrong_strike front y after f u) =
          subst (FirstWrong K lists O os e rec step (x ∷ (front ++ (y ∷ after)))) (omega arith)
          (wrong_strike (x ∷ front) y after (next x t f) (rw append_assoc at u))
      later _ _ t (wrong_ending ys f u) = subst (FirstWrong K lists O os e rec step (x ∷ ys)) (omega arith) (wrong_ending (x ∷ ys) (next x t f) (rw append_assoc at u))

      go : (b : Bool) → allowed_strike K O (struck nothing rec) x ≡ b → (r : Result (Unit {0}) Rejection) → Checks K lists O os e (rec ++ (x ∷ [])) (suc step) xs r → Checks K lists O os e rec step (x ∷ xs) (step_by step b r)
      go false u r w = not_allowed step (subst (FirstWrong K lists O os e rec step (x ∷ xs)) (omega arith) (wrong_strike [] x xs end (rw append-nil u)))
      go true t _ (accepted f h) = accepted (next x t f) (rw append_assoc at h)
      go true t _ (not_allowed k w) = not_allowed k (later xs k t w)

  -- what is allowed in turn, and whose ending fits, is accepted
  pub accepts : (rec xs : List Strike) (step : ℕ) → AllowedFrom K O nothing rec xs → outcome_fits K lists O os (struck nothing (rec ++ xs)) e ≡ true
      → check_from K lists O os e rec xs step ≡ Ok tt
  unfolding check_from
  accepts rec xs step end h = let t : outcome_fits K lists O os (struck nothing rec) e ≡ true = rw append-nil at h in rw t
  accepts rec xs step (next {xs = ys} x a f) h = rw a (accepts (rec ++ (x ∷ [])) ys (suc step) f (rw append_assoc h))

-- ---- for a full placement

module _ (F : Full) (legal : LegalFull F) (os : List Order) (fine : LegalOrders F os) where
  -- the answer k: the steps before k are allowed in turn and k isn't; s + 1 is the ending; accepted: all are allowed and the ending fits
  pub check-says : (r : WholeRuling) → Checks (market F) (trainee_list F) (standing os) os r.outcome [] 1 r.strikes (check F os r)
  unfolding check
  check-says r = checks (market F) (trainee_list F) (standing os) os r.outcome [] r.strikes 1

  -- an accepted ruling is true
  pub accepted-true : (r : WholeRuling) → check F os r ≡ Ok tt → TrueRuling (market F) (standing os) r
  accepted-true r h = go (check F os r) (check-says r) h
    where
      go : (c : Result (Unit {0}) Rejection) → Checks (market F) (trainee_list F) (standing os) os r.outcome [] 1 r.strikes c → c ≡ Ok tt → TrueRuling (market F) (standing os) r
      go _ (accepted f t) q = allowed-true F legal os fine r (record-on (market F) (standing os) nothing [] r.strikes start f) t
      go _ (not_allowed k w) q = absurd (let z : ◌≡◌ {A = ℕ} 0 1 = cc in omega arith)

  -- every allowed record whose ending fits is accepted, the solver's own and any other
  pub allowed-accepted : (r : WholeRuling) → AllowedRecord (market F) (standing os) nothing r.strikes
      → outcome_fits (market F) (trainee_list F) (standing os) os (struck nothing r.strikes) r.outcome ≡ true → check F os r ≡ Ok tt
  unfolding check
  allowed-accepted r g h = accepts (market F) (trainee_list F) (standing os) os r.outcome [] r.strikes 1
      (record-from (market F) (standing os) nothing r.strikes g) h

  pub solved-accepted : (r : WholeRuling) → solve F os ≡ some r → check F os r ≡ Ok tt
  solved-accepted r h = allowed-accepted r (solved-allowed F legal os fine r h) (solved-fits F legal os fine r h)
