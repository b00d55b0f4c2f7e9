-- When a ruling is true (demand 3): its table is the best respecting matching or there is none, and what it strikes is in none.
-- Assumes nothing.
use Rattle.std.specs.Prelude.{ℕ, ◌+◌, ◌≤◌, ◌<◌, ◌≡◌, true, false, List, ◌∷◌, ◌++◌, length}
use Rattle.meaning.specs.Numbers.{In}
use Rattle.meaning.specs.Lists.{Each}
use Rattle.meaning.specs.Placement.{Order}
use Rattle.meaning.specs.Market.{Market, Standing, Table, Mutual, placed, Matching, Blocks, Stable, Respecting}
use Rattle.meaning.specs.Strikes.{Struck, nothing, allowed_strike, struck, AllowedFrom}
use Rattle.meaning.specs.Endings.{Outcome, placed_by, none_held, none_room, table_of, left_of, broken?, room?, outcome_fits}
use Rattle.meaning.specs.Solver.{WholeRuling}
use Rattle.meaning.specs.declared.Strike.{Strike}
use Rattle.meaning.specs.declared.Tested.{Tested}
use Rattle.std.specs.Prelude.{Result, Ok, Err}
use Rattle.meaning.specs.declared.Rejection.{Rejection}
use Rattle.meaning.specs.declared.Rejection.TheVariants.{NotAllowed}

-- a respecting matching, and no other is better for any trainee: whoever has a depot in another has one here, that one or a higher one
pub record BestTable (K : Market) (O : Standing) (L : Table) : Type 0 where
  pub respecting : Respecting K O L
  pub sits : (M : Table) → Respecting K O M → (i : ℕ) → In K.n i → 0 < M i → 0 < L i
  pub highest : (M : Table) → Respecting K O M → (i : ℕ) → In K.n i → 0 < M i → K.trainee_rank i (L i) ≤ K.trainee_rank i (M i)

abbrev pub NoRespecting : Market → Standing → Type 0
NoRespecting K O = (M : Table) → Respecting K O M → ⊥

abbrev pub TrueOutcome : Market → Standing → Outcome → Type 0
TrueOutcome K O (placed_by l) = BestTable K O (table_of l)
TrueOutcome K O (none_held i j) = NoRespecting K O
TrueOutcome K O (none_room i j) = NoRespecting K O

-- the strike's pair is in no respecting matching
abbrev pub TrueStrike : Market → Standing → Strike → Type 0
TrueStrike K O x = (M : Table) → Respecting K O M → M x.trainee ≡ x.depot → ⊥

pub record TrueRuling (K : Market) (O : Standing) (r : WholeRuling) : Type 0 where
  pub strikes : Each (TrueStrike K O) r.strikes
  pub outcome : TrueOutcome K O r.outcome

-- ---- the pair that the solver's none names is the first of its kind

-- (i, j) is the first held pair, in file order, that is struck or isn't mutual
pub record FirstBroken (K : Market) (S : Struck) (os : List Order) (i j : ℕ) : Type 0 where
  pub before : List Order
  pub order : Order
  pub after : List Order
  pub stands : os ≡ before ++ (order ∷ after)
  pub unbroken : Each (λ o. broken? K S o ≡ false) before
  pub broken : broken? K S order ≡ true
  pub trainee : order.trainee ≡ i
  pub depot : order.depot ≡ j

-- (i, j) is a pair of kind 2, with the smallest depot and then the smallest trainee
pub record FirstRoom (K : Market) (S : Struck) (L : Table) (i j : ℕ) : Type 0 where
  pub trainee_in_range : In K.n i
  pub depot_in_range : In K.m j
  pub room : room? K S L i j ≡ true
  pub depot_first : (i' j' : ℕ) → In K.n i' → In K.m j' → j' < j → room? K S L i' j' ≡ false
  pub trainee_first : (i' : ℕ) → In K.n i' → i' < i → room? K S L i' j ≡ false

abbrev pub FirstNamed : Market → (ℕ → List ℕ) → List Order → Struck → Outcome → Type 0
FirstNamed K lists os S (placed_by l) = Each (λ o. broken? K S o ≡ false) os
FirstNamed K lists os S (none_held i j) = FirstBroken K S os i j
FirstNamed K lists os S (none_room i j) = FirstRoom K S (left_of K lists S) i j

-- ---- what the checker's answer says, from a step on

module _ (K : Market) (lists : ℕ → List ℕ) (O : Standing) (os : List Order) (e : Outcome) where
  -- after the record in hand, the steps before k are allowed in turn and k isn't: a strike, or the ending after the last
  pub data FirstWrong (rec : List Strike) (step : ℕ) : List Strike → ℕ → Type 0 where
    wrong_strike : (front : List Strike) (x : Strike) (after : List Strike) → AllowedFrom K O nothing rec front
        → allowed_strike K O (struck nothing (rec ++ front)) x ≡ false → FirstWrong rec step (front ++ (x ∷ after)) (step + length front)
    wrong_ending : (xs : List Strike) → AllowedFrom K O nothing rec xs → outcome_fits K lists O os (struck nothing (rec ++ xs)) e ≡ false
        → FirstWrong rec step xs (step + length xs)

  pub data Checks (rec : List Strike) (step : ℕ) (xs : List Strike) : Result (Unit {0}) Rejection → Type 0 where
    accepted : AllowedFrom K O nothing rec xs → outcome_fits K lists O os (struck nothing (rec ++ xs)) e ≡ true → Checks rec step xs (Ok tt)
    not_allowed : (k : ℕ) → FirstWrong rec step xs k → Checks rec step xs (Err (NotAllowed k))

-- ---- what the stability test's answer says

-- i is the first trainee whose depot isn't mutual
pub record FirstStranger (K : Market) (M : Table) (i : ℕ) : Type 0 where
  pub inside : In K.n i
  pub has : 0 < M i
  pub stranger : Mutual K i (M i) → ⊥
  pub first : (i' : ℕ) → In K.n i' → i' < i → 0 < M i' → Mutual K i' (M i')

-- there is no such trainee, and j is the smallest depot over its posts
pub record FirstOver (K : Market) (M : Table) (j : ℕ) : Type 0 where
  pub pairs : (i : ℕ) → In K.n i → 0 < M i → Mutual K i (M i)
  pub inside : In K.m j
  pub over : K.posts j < placed K M j
  pub first : (j' : ℕ) → In K.m j' → j' < j → placed K M j' ≤ K.posts j'

-- the table is a matching, and (i, j) is the blocking pair of the smallest trainee, highest on that list
pub record FirstBlocking (K : Market) (M : Table) (i j : ℕ) : Type 0 where
  pub matching : Matching K M
  pub blocks : Blocks K M i j
  pub trainee_first : (i' j' : ℕ) → i' < i → Blocks K M i' j' → ⊥
  pub highest : (j' : ℕ) → K.trainee_rank i j' < K.trainee_rank i j → Blocks K M i j' → ⊥

pub data TestSays (K : Market) (M : Table) : Tested → Type 0 where
  says_stable : Stable K M → TestSays K M Tested.Stable
  says_stranger : (i : ℕ) → FirstStranger K M i → TestSays K M (Tested.NotMutual i)
  says_over : (j : ℕ) → FirstOver K M j → TestSays K M (Tested.OverPosts j)
  says_blocking : (i j : ℕ) → FirstBlocking K M i j → TestSays K M (Tested.Blocking i j)
