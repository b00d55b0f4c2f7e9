-- What the answers of the reader's functions say, by cases on the answer: a function that finds q at the front of a text leaves r.
-- Assumes nothing.
use Rattle.std.specs.Prelude.{ℕ, ◌+◌, ◌-◌, ◌*◌, ◌<◌, ◌≡◌, List, [], ◌∷◌, ◌++◌, length, Option, Some, None, Result, Ok, Err}
use Rattle.std.specs.Option.{unwrap_or}
use Rattle.std.proofs.Math.Option as maybe
use Rattle.std.proofs.lemmas.List.Edits.{sets}
use Rattle.meaning.specs.Answers.{fault_number}
use Rattle.meaning.specs.Lists.{weigh}
use Rattle.meaning.specs.Placement as placement
use Rattle.meaning.specs.Placement.{Order, Depot, size, depot_size}
use Rattle.fields.specs.Reader.{Step, got, refusal}
use Rattle.fields.specs.Bytes.{word_of, rest_of}
use Rattle.fields.specs.declared.Wrong.{Wrong}
use Rattle.fields.specs.declared.Misread.{Misread}
use Rattle.placement_text.specs.Reader as reader
use Rattle.placement_text.specs.Reader.{opening_of, order_fields, finish, orders, Head, sizes, head_fields}
use Rattle.tables.specs.Cells.{trainee_cells, depot_cells, list_cells, depot_list_cells, series_cells, joined, cells_of_orders}
use Rattle.placement_text.specs.declared.DepotRow.{DepotRow}
use Rattle.tables.specs.declared.Kind.{Kind}
use Rattle.placement_text.specs.declared.Opening.{Opening}
use Rattle.placement_text.specs.declared.Pair.{Pair}
use Rattle.placement_text.specs.declared.room.Sizes.{Sizes}

-- a step that is refused
abbrev pub RefusedAs : {A : Type 0} → Step A → Wrong → Type 0
RefusedAs step x = step ≡ refusal (fault_number x.fault) 0 x.field

-- the same where lines are counted
abbrev pub MisreadAs : {A : Type 0} → Step A → Misread → Type 0
MisreadAs step x = step ≡ refusal (fault_number x.fault) x.line x.field

abbrev pub told : Option ℕ → maybe.Option ℕ
told (Some v) = maybe.some v
told None = maybe.none

abbrev pub ReceivedRead : Step (maybe.Option ℕ) → List ℕ → Result (Option ℕ) Wrong → Type 0
ReceivedRead step r (Ok v) = step ≡ got (told v) r
ReceivedRead step r (Err x) = RefusedAs step x

-- the entries that were read stand in the cells from `start` on, and no other cell has changed
pub record Filled (step : Step (List ℕ)) (start : ℕ) (t t' r : List ℕ) : Type 0 where
  pub es : List ℕ
  pub goes : step ≡ got es r
  pub cells : t' ≡ sets t start es

abbrev pub EntriesRead : Step (List ℕ) → ℕ → List ℕ → List ℕ → List ℕ → Result (Unit {0}) Wrong → Type 0
EntriesRead step start t t' r (Ok _) = Filled step start t t' r
EntriesRead step start t t' r (Err x) = RefusedAs step x

-- what was read of one line: the cells of its head, how many entries it has, and these in the cells from `start` on
pub record Row {A : Type 0} (weight : A → ℕ) (cells : ℕ → A → List ℕ) (own : A → List ℕ) (step : Step A) (start : ℕ) (t t' row : List ℕ) (count : ℕ) (r : List ℕ) : Type 0 where
  pub it : A
  pub goes : step ≡ got it r
  pub head : row ≡ cells start it
  pub size : count ≡ weight it
  pub stored : t' ≡ sets t start (own it)

-- the cell of a list's length or of posts
abbrev pub cell_of : Option ℕ → ℕ
cell_of l = unwrap_or l 65535

-- how many entries a list has
abbrev pub count_of : Option ℕ → ℕ
count_of l = unwrap_or l 0

abbrev pub ListRow : Step (maybe.Option (List ℕ)) → ℕ → List ℕ → List ℕ → Option ℕ → List ℕ → Type 0
ListRow step start t t' l r = Row size trainee_cells list_cells step start t t' (start ∷ cell_of l ∷ []) (count_of l) r

-- a list of `count` entries
abbrev pub CountedRead : Step (maybe.Option (List ℕ)) → ℕ → ℕ → List ℕ → List ℕ → List ℕ → Result (Unit {0}) Wrong → Type 0
CountedRead step start count t t' r (Ok _) = ListRow step start t t' (Some count) r
CountedRead step start count t t' r (Err x) = RefusedAs step x

abbrev pub ListedRead : Step (maybe.Option (List ℕ)) → ℕ → List ℕ → List ℕ → List ℕ → Result (Option ℕ) Wrong → Type 0
ListedRead step start t t' r (Ok l) = ListRow step start t t' l r
ListedRead step start t t' r (Err x) = RefusedAs step x

abbrev pub TraineeRead : Step (maybe.Option (List ℕ)) → ℕ → List ℕ → List ℕ → List ℕ → Result (Option ℕ) Misread → Type 0
TraineeRead step start t t' r (Ok l) = ListRow step start t t' l r
TraineeRead step start t t' r (Err x) = MisreadAs step x

abbrev pub DepotRowRead : Step Depot → ℕ → List ℕ → List ℕ → DepotRow → List ℕ → Type 0
DepotRowRead step start t t' d r =
    Row depot_size depot_cells depot_list_cells step start t t' (start ∷ cell_of d.list ∷ cell_of d.posts ∷ []) (count_of d.list) r

abbrev pub DepotRead : Step Depot → ℕ → List ℕ → List ℕ → List ℕ → Result DepotRow Wrong → Type 0
DepotRead step start t t' r (Ok d) = DepotRowRead step start t t' d r
DepotRead step start t t' r (Err x) = RefusedAs step x

abbrev pub DepotLineRead : Step Depot → ℕ → List ℕ → List ℕ → List ℕ → Result DepotRow Misread → Type 0
DepotLineRead step start t t' r (Ok d) = DepotRowRead step start t t' d r
DepotLineRead step start t t' r (Err x) = MisreadAs step x

-- what was read of a side: the heads in the cells from `first` on, how many entries there are, and these in the cells from `base` on
pub record Rows {A : Type 0} (weight : A → ℕ) (cells : ℕ → A → List ℕ) (own : A → List ℕ) (step : Step (List A)) (first base : ℕ) (h h' t t' : List ℕ) (total : ℕ) (r : List ℕ) : Type 0 where
  pub them : List A
  pub goes : step ≡ got them r
  pub heads : h' ≡ sets h first (series_cells weight cells base them)
  pub size : total ≡ weigh weight them
  pub stored : t' ≡ sets t base (joined own them)

abbrev pub TraineesRead : Step (List (maybe.Option (List ℕ))) → List ℕ → List ℕ → List ℕ → List ℕ → List ℕ → Result ℕ Misread → Type 0
TraineesRead step h h' t t' r (Ok total) = Rows size trainee_cells list_cells step 3 0 h h' t t' total r
TraineesRead step h h' t t' r (Err x) = MisreadAs step x

-- the depots' heads stand behind those of n trainees
abbrev pub DepotsRead : Step (List Depot) → ℕ → ℕ → List ℕ → List ℕ → List ℕ → List ℕ → List ℕ → Result ℕ Misread → Type 0
DepotsRead step n base h h' t t' r (Ok total) = Rows depot_size depot_cells depot_list_cells step (3 + 2 * n) base h h' t t' total r
DepotsRead step n base h h' t t' r (Err x) = MisreadAs step x

abbrev pub kind_of : Kind → placement.Kind
kind_of Kind.Held = placement.held
kind_of Kind.Barred = placement.barred

abbrev pub opens : Opening → reader.Opening
opens (Opening.Order b) = reader.order (kind_of b)
opens Opening.End = reader.ending

-- a line begins with a word that opens it so, and r follows
pub record Opened (q : List ℕ) (w : reader.Opening) (r : List ℕ) : Type 0 where
  pub opens : opening_of (word_of q) ≡ w
  pub rest : rest_of q ≡ r

-- the line l begins with one of these words, or no line begins so
abbrev pub OpeningRead : ℕ → List ℕ → List ℕ → Result Opening Misread → Type 0
OpeningRead l q r (Ok w) = Opened q (opens w) r
OpeningRead l q r (Err x) = (n m k : ℕ) (os : List Order) → MisreadAs (orders k n m l os q) x

abbrev pub pair_of : placement.Kind → ℕ → ℕ → Order
pair_of b i j = record { kind = b; trainee = i; depot = j }

abbrev pub order_of : Pair → Order
order_of p = pair_of (kind_of p.kind) p.trainee p.depot

abbrev pub PairRead : ℕ → ℕ → Kind → List ℕ → List ℕ → Result Pair Wrong → Type 0
PairRead n m b q r (Ok p) = order_fields n m (kind_of b) q ≡ got (order_of p) r
PairRead n m b q r (Err x) = RefusedAs (order_fields n m (kind_of b) q) x

abbrev pub FinishRead : ℕ → List ℕ → Result (Unit {0}) Misread → Type 0
FinishRead l q (Ok _) = (os : List Order) → finish l os q ≡ got os []
FinishRead l q (Err x) = (os : List Order) → MisreadAs (finish l os q) x

-- one more pair, and r is left
pub record OneMore (n m l c : ℕ) (q : List ℕ) (p : Pair) (r : List ℕ) : Type 0 where
  pub few : c < 1024
  pub goes : (os : List Order) → orders (1024 - c) n m l os q ≡ orders (1024 - (c + 1)) n m (l + 1) (os ++ order_of p ∷ []) r

abbrev pub OrderRead : ℕ → ℕ → ℕ → ℕ → List ℕ → List ℕ → Result (Option Pair) Misread → Type 0
OrderRead n m l c q r (Ok (Some p)) = OneMore n m l c q p r
OrderRead n m l c q r (Ok None) = (os : List Order) → orders (1024 - c) n m l os q ≡ got os []
OrderRead n m l c q r (Err x) = (os : List Order) → MisreadAs (orders (1024 - c) n m l os q) x

-- the pairs that were read stand in the cells from the first on, behind their number
pub record AllPairs (step : Step (List Order)) (o o' : List ℕ) (count : ℕ) : Type 0 where
  pub them : List Order
  pub goes : step ≡ got them []
  pub size : count ≡ length them
  pub stored : o' ≡ sets o 0 (cells_of_orders them)

abbrev pub PairsRead : Step (List Order) → List ℕ → List ℕ → Result ℕ Misread → Type 0
PairsRead step o o' (Ok count) = AllPairs step o o' count
PairsRead step o o' (Err x) = MisreadAs step x

abbrev pub head_of : ℕ → ℕ → ℕ → Head
head_of e n m = record { edition = e; n = n; m = m }

abbrev pub SizesRead : List ℕ → List ℕ → Result Sizes Wrong → Type 0
SizesRead q r (Ok z) = (e : ℕ) → sizes e q ≡ got (head_of e z.trainees z.depots) r
SizesRead q r (Err x) = (e : ℕ) → RefusedAs (sizes e q) x

-- of edition 1
abbrev pub HeadRead : List ℕ → List ℕ → Result Sizes Wrong → Type 0
HeadRead q r (Ok z) = head_fields q ≡ got (head_of 1 z.trainees z.depots) r
HeadRead q r (Err x) = RefusedAs (head_fields q) x
