-- The endings (document 01, "Strikes and endings"): placed, none of kind 1, none of kind 2. They depend on the set of struck pairs and the orders alone.
-- Assumes nothing.
use Rattle.std.specs.Prelude.{ℕ, zero, suc, ◌≤◌, ◌<◌, ◌≡◌, ◌⊎◌, Bool, true, false, not, List, [], ◌∷◌, get_or, ltb, leb, eqb}
use Rattle.std.proofs.Math.Option.{Option, none, some}
use Rattle.meaning.specs.Numbers.{In, ◌&◌, ◌or◌, imp, all, smallest}
use Rattle.meaning.specs.Placement.{held, barred, Order}
use Rattle.meaning.specs.Market.{Market, Standing, same_kind, Table, Mutual, mutual?, placed}
use Rattle.meaning.specs.Strikes.{Struck, down_struck, left?, first_left}

-- what a ruling rules: a table (the depot of each trainee, 0 for none), or a pair that shows why there is none
pub data Outcome : Type 0 where
  placed_by : List ℕ → Outcome
  none_held : ℕ → ℕ → Outcome
  none_room : ℕ → ℕ → Outcome

-- the table whose cells are l
unfoldable pub table_of : List ℕ → Table
table_of l i = get_or (0 ∷ l) i 0

-- ---- the left table

-- the cells of trainees i, i + 1, .., d of them
unfoldable pub left_from : Market → (ℕ → List ℕ) → Struck → ℕ → ℕ → List ℕ
left_from K lists S zero i = []
left_from K lists S (suc d) i = first_left K S i (lists i) ∷ left_from K lists S d (suc i)

-- each trainee's best mutual pair not struck, or 0; `lists` are the trainees' lists
unfoldable pub left_table : Market → (ℕ → List ℕ) → Struck → List ℕ
left_table K lists S = left_from K lists S K.n 1

abbrev pub left_of : Market → (ℕ → List ℕ) → Struck → Table
left_of K lists S = table_of (left_table K lists S)

-- ---- placed: the table is a respecting matching

unfoldable pub blocks? : Market → Table → ℕ → ℕ → Bool
blocks? K M i j =
    mutual? K i j & (eqb (M i) 0 or ltb (K.trainee_rank i j) (K.trainee_rank i (M i)))
    & (ltb (placed K M j) (K.posts j) or not (all K.n (λ k. not (eqb (M k) j & ltb (K.depot_rank j i) (K.depot_rank j k)))))

-- no depot has more trainees than posts
unfoldable pub within? : Market → Table → Bool
within? K M = all K.m (λ j. leb (placed K M j) (K.posts j))

unfoldable pub stable? : Market → Table → Bool
stable? K M =
    all K.n (λ i. imp (ltb 0 (M i)) (mutual? K i (M i)))
    & within? K M
    & all K.n (λ i. all K.m (λ j. not (blocks? K M i j)))

-- the table has the pair exactly if it is to
unfoldable pub obeys? : Table → Order → Bool
obeys? M o = elim o.kind [ held ↦ eqb (M o.trainee) o.depot | barred ↦ not (eqb (M o.trainee) o.depot) ]

unfoldable pub obeys_all? : List Order → Table → Bool
obeys_all? [] M = true
obeys_all? (o ∷ os) M = obeys? M o & obeys_all? os M

unfoldable pub respecting? : Market → List Order → Table → Bool
respecting? K os M = stable? K M & obeys_all? os M

-- ---- none, kind 1: a held pair is struck or isn't mutual

unfoldable pub broken? : Market → Struck → Order → Bool
broken? K S o = same_kind held o.kind & not (left? K S o.trainee o.depot)

-- the first such held pair in file order
unfoldable pub first_broken : Market → Struck → List Order → Option Order
first_broken K S [] = none
first_broken K S (o ∷ os) = elim (broken? K S o) [ true ↦ some o | false ↦ first_broken K S os ]

pub record NoneHeld (K : Market) (O : Standing) (S : Struck) (i j : ℕ) : Type 0 where
  pub order : O.held i j ≡ true
  pub broken : (S i j ≡ true) ⊎ (mutual? K i j ≡ false)

-- ---- none, kind 2: the left table exceeds no depot's posts, and a trainee who has everything down to a depot struck meets room there

pub record NoneRoom (K : Market) (S : Struck) (L : Table) (i j : ℕ) : Type 0 where
  pub within : (j' : ℕ) → In K.m j' → placed K L j' ≤ K.posts j'
  pub pair : Mutual K i j
  pub down : down_struck K S i j ≡ true
  pub room : placed K L j < K.posts j

-- the named pair of kind 2
unfoldable pub room? : Market → Struck → Table → ℕ → ℕ → Bool
room? K S L i j = mutual? K i j & down_struck K S i j & ltb (placed K L j) (K.posts j)

-- depot j with the trainee found for it, or what the depots after it give
unfoldable pub room_or : ℕ → Option ℕ → Option Outcome → Option Outcome
room_or j (some i) rest = some (none_room i j)
room_or j none rest = rest

-- the smallest depot of j, j + 1, .., d of them, and then the smallest trainee
unfoldable pub room_from : Market → Struck → Table → ℕ → ℕ → Option Outcome
room_from K S L zero j = none
room_from K S L (suc d) j = room_or j (smallest K.n (λ i. room? K S L i j)) (room_from K S L d (suc j))

unfoldable pub none_room_of : Market → Struck → Table → Option Outcome
none_room_of K S L = elim (within? K L) [ true ↦ room_from K S L K.m 1 | false ↦ none ]

-- ---- the ending of a set of struck pairs: kind 1, else placed, else kind 2; there may be none until nothing may be struck any more

unfoldable pub placed_or : Bool → List ℕ → Option Outcome → Option Outcome
placed_or true l rest = some (placed_by l)
placed_or false l rest = rest

unfoldable pub held_or : Option Order → Option Outcome → Option Outcome
held_or (some o) rest = some (none_held o.trainee o.depot)
held_or none rest = rest

unfoldable pub outcome_of : Market → (ℕ → List ℕ) → List Order → Struck → Option Outcome
outcome_of K lists os S =
    held_or (first_broken K S os)
    (placed_or (respecting? K os (left_of K lists S)) (left_table K lists S) (none_room_of K S (left_of K lists S)))

-- ---- an ending fits a set of struck pairs

unfoldable pub same_cells : List ℕ → List ℕ → Bool
same_cells [] [] = true
same_cells [] (y ∷ ys) = false
same_cells (x ∷ xs) [] = false
same_cells (x ∷ xs) (y ∷ ys) = eqb x y & same_cells xs ys

-- the table is the left table and respecting; or the named pair is held and broken; or it is one of kind 2
unfoldable pub outcome_fits : Market → (ℕ → List ℕ) → Standing → List Order → Struck → Outcome → Bool
outcome_fits K lists O os S (placed_by l) = same_cells l (left_table K lists S) & respecting? K os (table_of l)
outcome_fits K lists O os S (none_held i j) = O.held i j & not (left? K S i j)
outcome_fits K lists O os S (none_room i j) = within? K (left_of K lists S) & room? K S (left_of K lists S) i j
