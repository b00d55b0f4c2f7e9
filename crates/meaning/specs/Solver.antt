-- The solver's sweep (document 01, "Strikes and endings", "The solver sweeps .."), as a function that computes: the strikes in their order, and the ruling.
-- Assumes nothing.
use Rattle.std.specs.Prelude.{ℕ, zero, suc, ◌≤◌, ◌≡◌, Bool, true, false, List, [], ◌∷◌, ◌++◌, length, eqb}
use Rattle.std.proofs.Math.Option.{Option, none, some}
use Rattle.meaning.specs.Numbers.{smallest}
use Rattle.meaning.specs.Placement.{Order, Placement, size}
use Rattle.meaning.specs.Full.{Full, Received, whole, and_then, full}
use Rattle.meaning.specs.Market.{Market, trainee_list, market, Standing, standing}
use Rattle.meaning.specs.Strikes.{Struck, nothing, fits, struck, left?, mutual_pairs}
use Rattle.meaning.specs.Endings.{Outcome, placed_by, none_held, none_room, outcome_of}
use Rattle.meaning.specs.Answers.{reason_number, reason_witness}
use Rattle.meaning.specs.declared.Reason.{Reason}
use Rattle.meaning.specs.declared.Reason.TheVariants.{Barred, HeldElsewhere, PostsGone, Passed}
use Rattle.meaning.specs.declared.Strike.{Strike}
use Rattle.meaning.specs.declared.Ending.{Ending}
use Rattle.meaning.specs.declared.Ruling.{Ruling}

-- ---- a sweep, whatever is done at a place: a visit takes the trainee, the depot and the state

-- one trainee's list, from its best place
unfoldable pub row_by : {A : Type 0} → (ℕ → ℕ → A → A) → ℕ → List ℕ → A → A
row_by visit i [] a = a
row_by visit i (j ∷ js) a = row_by visit i js (visit i j a)

-- trainees i, i + 1, .., d of them
unfoldable pub rows_by : {A : Type 0} → (ℕ → ℕ → A → A) → (ℕ → List ℕ) → ℕ → ℕ → A → A
rows_by visit lists zero i a = a
rows_by visit lists (suc d) i a = rows_by visit lists d (suc i) (row_by visit i (lists i) a)

-- sweeps until one changes nothing, at most d of them; `size` tells how much was done
unfoldable pub sweeps_by : {A : Type 0} → (ℕ → ℕ → A → A) → (A → ℕ) → (ℕ → List ℕ) → ℕ → ℕ → A → A
sweeps_by visit size lists n zero a = a
sweeps_by {A} visit size lists n (suc d) a =
    let after : A = rows_by visit lists n 1 a in
    elim (eqb (size after) (size a)) [ true ↦ a | false ↦ sweeps_by visit size lists n d after ]

-- ---- the solver's visit: strike at once what may be struck, by the lowest reason and then the smallest witness

-- which reasons fit: barred, held elsewhere with its smallest depot, posts gone, passed with its smallest trainee
unfoldable pub lowest : Bool → Option ℕ → Bool → Option ℕ → Option Reason
lowest true elsewhere gone passed = some Barred
lowest false (some j) gone passed = some (HeldElsewhere j)
lowest false none true passed = some PostsGone
lowest false none false (some k) = some (Passed k)
lowest false none false none = none

unfoldable pub choose : Market → Standing → Struck → ℕ → ℕ → Option Reason
choose K O S i j =
    lowest
    (fits K O S i j Barred)
    (smallest K.m (λ j'. fits K O S i j (HeldElsewhere j')))
    (fits K O S i j PostsGone)
    (smallest K.n (λ k. fits K O S i j (Passed k)))

-- no reason that fits has a lower number, nor the same number and a smaller witness
pub record LowestReason (K : Market) (O : Standing) (S : Struck) (i j : ℕ) (r : Reason) : Type 0 where
  pub fit : fits K O S i j r ≡ true
  pub number : (r' : Reason) → fits K O S i j r' ≡ true → reason_number r ≤ reason_number r'
  pub witness : (r' : Reason) → fits K O S i j r' ≡ true → reason_number r ≡ reason_number r' → reason_witness r ≤ reason_witness r'

-- a record each strike of which, when it was made, was of a pair left and had the lowest reason and then the smallest witness
pub data LowestRecord (K : Market) (O : Standing) (S₀ : Struck) : List Strike → Type 0 where
  begun : LowestRecord K O S₀ []
  lower : {rec : List Strike} (x : Strike) → LowestRecord K O S₀ rec → left? K (struck S₀ rec) x.trainee x.depot ≡ true
      → LowestReason K O (struck S₀ rec) x.trainee x.depot x.reason → LowestRecord K O S₀ (rec ++ (x ∷ []))

-- the record with one more strike, if there is a reason
unfoldable pub strike_for : ℕ → ℕ → List Strike → Option Reason → List Strike
strike_for i j rec none = rec
strike_for i j rec (some r) = rec ++ (record { trainee = i; depot = j; reason = r } ∷ [])

unfoldable pub visit : Market → Standing → Struck → ℕ → ℕ → List Strike → List Strike
visit K O S₀ i j rec = elim (left? K (struck S₀ rec) i j) [ true ↦ strike_for i j rec (choose K O (struck S₀ rec) i j) | false ↦ rec ]

-- ---- the strikes and the ruling

-- one sweep more than there are mutual pairs is enough, since each but the last strikes one
unfoldable pub strikes_of : Full → List Order → List Strike
strikes_of F os = sweeps_by (visit (market F) (standing os) nothing) length (trainee_list F) (market F).n (suc (mutual_pairs (market F))) []

-- a ruling with all that belongs to it: the number of trainees, the strikes in order, the outcome
pub record WholeRuling : Type 0 where
  pub trainees : ℕ
  pub strikes : List Strike
  pub outcome : Outcome

-- the ending beside the table
unfoldable pub ending_of : Outcome → Ending
ending_of (placed_by l) = Ending.Placed
ending_of (none_held i j) = Ending.NoneHeld i j
ending_of (none_room i j) = Ending.NoneRoom i j

-- the ruling beside its record and its table; the number of strikes is the length of the record
unfoldable pub head_of : WholeRuling → Ruling
head_of r = record { trainees = r.trainees; strikes = length r.strikes; ending = ending_of r.outcome }

unfoldable pub ruling_by : ℕ → List Strike → Option Outcome → Option WholeRuling
ruling_by n rec none = none
ruling_by n rec (some e) = some (record { trainees = n; strikes = rec; outcome = e })

-- the solver's ruling; that there always is one is proved
unfoldable pub solve : Full → List Order → Option WholeRuling
solve F os = ruling_by (market F).n (strikes_of F os) (outcome_of (market F) (trainee_list F) os (struck nothing (strikes_of F os)))

-- a placement's ruling, or the first line where something was not received
unfoldable pub ruled : Placement → Received (Option WholeRuling)
ruled p = and_then (full p) (λ F. whole (solve F p.orders))
