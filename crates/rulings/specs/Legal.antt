-- Which rulings are legal: what the ruling text can say (document 01, "The two texts"), and so what a ruling in memory may be (number 8).
-- Trainees are 1 to n and depots 1 to 64, whatever the placement's m is.
-- Assumes nothing.
use Rattle.std.specs.Prelude.{ℕ, ◌≤◌, ◌≡◌, Bool, true, List, [], ◌∷◌, length, leb, eqb}
use Rattle.meaning.specs.Numbers.{In, ◌&◌}
use Rattle.meaning.specs.Lists.{Each}
use Rattle.meaning.specs.Endings.{Outcome, placed_by, none_held, none_room}
use Rattle.meaning.specs.Solver.{WholeRuling}
use Rattle.meaning.specs.declared.Reason.{Reason}
use Rattle.meaning.specs.declared.Reason.TheVariants.{Barred, HeldElsewhere, PostsGone, Passed}
use Rattle.meaning.specs.declared.Strike.{Strike}

-- a depot that a ruling may name
abbrev pub DEPOTS : ℕ
DEPOTS = 64

-- how many strikes a ruling may have
abbrev pub STRIKES : ℕ
STRIKES = 4096

-- the witness of a reason: none, a depot, or a trainee
pub data LegalReason (n : ℕ) : Reason → Type 0 where
  legal_barred : LegalReason n Barred
  legal_elsewhere : {j : ℕ} → In DEPOTS j → LegalReason n (HeldElsewhere j)
  legal_gone : LegalReason n PostsGone
  legal_passed : {k : ℕ} → In n k → LegalReason n (Passed k)

pub record LegalStrike (n : ℕ) (x : Strike) : Type 0 where
  pub trainee : In n x.trainee
  pub depot : In DEPOTS x.depot
  pub reason : LegalReason n x.reason

-- a table has a cell for each trainee, 0 for no depot; a pair that shows why there is none is of a trainee and a depot
pub data LegalOutcome (n : ℕ) : Outcome → Type 0 where
  legal_table : {l : List ℕ} → length l ≡ n → Each (λ j. j ≤ DEPOTS) l → LegalOutcome n (placed_by l)
  legal_held : {i j : ℕ} → In n i → In DEPOTS j → LegalOutcome n (none_held i j)
  legal_room : {i j : ℕ} → In n i → In DEPOTS j → LegalOutcome n (none_room i j)

pub record LegalRuling (r : WholeRuling) : Type 0 where
  pub n : r.trainees ≤ 256
  pub strikes : Each (LegalStrike r.trainees) r.strikes
  pub few_strikes : length r.strikes ≤ STRIKES
  pub outcome : LegalOutcome r.trainees r.outcome

-- ---- the same as a test

unfoldable pub every? : {A : Type 0} → (A → Bool) → List A → Bool
every? f [] = true
every? f (x ∷ xs) = f x & every? f xs

-- a number of 1 to hi
unfoldable pub in? : ℕ → ℕ → Bool
in? hi v = leb 1 v & leb v hi

unfoldable pub legal_reason? : ℕ → Reason → Bool
legal_reason? n Barred = true
legal_reason? n (HeldElsewhere j) = in? DEPOTS j
legal_reason? n PostsGone = true
legal_reason? n (Passed k) = in? n k

unfoldable pub legal_strike? : ℕ → Strike → Bool
legal_strike? n x = in? n x.trainee & in? DEPOTS x.depot & legal_reason? n x.reason

unfoldable pub legal_outcome? : ℕ → Outcome → Bool
legal_outcome? n (placed_by l) = eqb (length l) n & every? (λ j. leb j DEPOTS) l
legal_outcome? n (none_held i j) = in? n i & in? DEPOTS j
legal_outcome? n (none_room i j) = in? n i & in? DEPOTS j

unfoldable pub legal_ruling? : WholeRuling → Bool
legal_ruling? r =
    leb r.trainees 256 & every? (legal_strike? r.trainees) r.strikes & leb (length r.strikes) STRIKES
    & legal_outcome? r.trainees r.outcome
