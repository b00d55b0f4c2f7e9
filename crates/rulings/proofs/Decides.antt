-- The test of a ruling passes exactly if the ruling is legal.
-- Assumes nothing.
use Prim.Native.Nat.{ℕ}
use mathlib.Core.Path.{◌≡◌, refl}
use mathlib.Core.Bool.{Bool, true}
use mathlib.Core.List.{List, [], ◌∷◌}
use lib.ListN.{length}
use lib.Dec.{leb, eqb}
use borrow.Author.Tests.{leb-true, le-leb, eqb-true, eq-eqb}
use Rattle.meaning.specs.Numbers.{In}
use Rattle.meaning.specs.Lists.{Each, each_none, each_more}
use Rattle.meaning.specs.Endings.{Outcome, placed_by, none_held, none_room}
use Rattle.meaning.specs.Solver.{WholeRuling}
use Rattle.meaning.specs.declared.Reason.{Reason}
use Rattle.meaning.specs.declared.Reason.TheVariants.{Barred, HeldElsewhere, PostsGone, Passed}
use Rattle.meaning.specs.declared.Strike.{Strike}
use Rattle.meaning.proofs.Booleans.{and_left, and_right, and_intro}
use Rattle.rulings.specs.Legal.{DEPOTS, STRIKES, LegalReason, legal_barred, legal_elsewhere, legal_gone, legal_passed, LegalStrike, LegalOutcome, legal_table, legal_held, legal_room, LegalRuling, every?, in?, legal_reason?, legal_strike?, legal_outcome?, legal_ruling?}

-- a test of one element that says P, over a list
module _ {A : Type 0} {P : A → Type 0} (f : A → Bool) where
  every-there : ((x : A) → P x → f x ≡ true) → {l : List A} → Each P l → every? f l ≡ true
  unfolding every?
  every-there one each_none = refl
  every-there one (each_more {x = x} p ps) = and_intro (one x p) (every-there one ps)

  every_back : ((x : A) → f x ≡ true → P x) → (l : List A) → every? f l ≡ true → Each P l
  unfolding every?
  every_back one [] h = each_none
  every_back one (x ∷ xs) h = each_more (one x (and_left _ _ h)) (every_back one xs (and_right (f x) _ h))

in-there : {hi v : ℕ} → In hi v → in? hi v ≡ true
unfolding in?
in-there {hi} {v} h = and_intro (le-leb 1 v h.low) (le-leb v hi h.high)

in-back : (hi v : ℕ) → in? hi v ≡ true → In hi v
unfolding in?
in-back hi v h = record { low = leb-true _ _ (and_left _ _ h); high = leb-true _ _ (and_right (leb 1 v) _ h) }

reason-there : {n : ℕ} {r : Reason} → LegalReason n r → legal_reason? n r ≡ true
unfolding legal_reason?
reason-there legal_barred = refl
reason-there (legal_elsewhere h) = in-there h
reason-there legal_gone = refl
reason-there (legal_passed h) = in-there h

reason-back : (n : ℕ) (r : Reason) → legal_reason? n r ≡ true → LegalReason n r
unfolding legal_reason?
reason-back n Barred h = legal_barred
reason-back n (HeldElsewhere j) h = legal_elsewhere (in-back DEPOTS j h)
reason-back n PostsGone h = legal_gone
reason-back n (Passed k) h = legal_passed (in-back n k h)

strike-there : (n : ℕ) (x : Strike) → LegalStrike n x → legal_strike? n x ≡ true
unfolding legal_strike?
strike-there n x h = and_intro (in-there h.trainee) (and_intro (in-there h.depot) (reason-there h.reason))

strike-back : (n : ℕ) (x : Strike) → legal_strike? n x ≡ true → LegalStrike n x
unfolding legal_strike?
strike-back n x h =
    let rest = and_right (in? n x.trainee) _ h in
    record {
      trainee = in-back n x.trainee (and_left _ _ h);
      depot = in-back DEPOTS x.depot (and_left _ _ rest);
      reason = reason-back n x.reason (and_right (in? DEPOTS x.depot) _ rest);
    }

outcome-there : {n : ℕ} {o : Outcome} → LegalOutcome n o → legal_outcome? n o ≡ true
unfolding legal_outcome?
outcome-there {n} (legal_table {l = l} e h) =
    and_intro (eq-eqb (length l) n e) (every-there (λ j. leb j DEPOTS) (λ j g. le-leb j DEPOTS g) h)
outcome-there (legal_held h g) = and_intro (in-there h) (in-there g)
outcome-there (legal_room h g) = and_intro (in-there h) (in-there g)

outcome-back : (n : ℕ) (o : Outcome) → legal_outcome? n o ≡ true → LegalOutcome n o
unfolding legal_outcome?
outcome-back n (placed_by l) h =
    legal_table (eqb-true (length l) n (and_left _ _ h))
    (every_back (λ j. leb j DEPOTS) (λ j g. leb-true j DEPOTS g) l (and_right (eqb (length l) n) _ h))
outcome-back n (none_held i j) h = legal_held (in-back n i (and_left _ _ h)) (in-back DEPOTS j (and_right (in? n i) _ h))
outcome-back n (none_room i j) h = legal_room (in-back n i (and_left _ _ h)) (in-back DEPOTS j (and_right (in? n i) _ h))

pub legal-passes : (r : WholeRuling) → LegalRuling r → legal_ruling? r ≡ true
unfolding legal_ruling?
legal-passes r h =
    and_intro (le-leb _ _ h.n)
    (and_intro (every-there (legal_strike? r.trainees) (strike-there r.trainees) h.strikes)
    (and_intro (le-leb _ _ h.few_strikes) (outcome-there h.outcome)))

pub passes-legal : (r : WholeRuling) → legal_ruling? r ≡ true → LegalRuling r
unfolding legal_ruling?
passes-legal r h =
    let below = and_right (leb r.trainees 256) _ h in
    let last = and_right (every? (legal_strike? r.trainees) r.strikes) _ below in
    record {
      n = leb-true _ _ (and_left _ _ h);
      strikes = every_back (legal_strike? r.trainees) (strike-back r.trainees) r.strikes (and_left _ _ below);
      few_strikes = leb-true _ _ (and_left _ _ last);
      outcome = outcome-back r.trainees r.outcome (and_right (leb (length r.strikes) STRIKES) _ last);
    }
