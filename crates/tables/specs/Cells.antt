-- The cells that hold a placement: each table's used cells, in order, as functions of the placement.
-- A start is where a list begins in the entries; a list not received starts where it would and has no cells there.
-- Assumes nothing.
use Rattle.std.specs.Prelude.{Option as Answer, Some, None, ℕ, ◌+◌, ◌*◌, ◌≤◌, ◌≡◌, List, [], ◌∷◌, ◌++◌, length, get_or, take, drop}
use Rattle.std.proofs.Math.Option.{Option, none, some}
use Rattle.meaning.specs.Lists.{weigh}
use Rattle.meaning.specs.Placement.{Kind, held, barred, Order, Depot, depot, Placement, size, depot_size, Legal}

-- the cell of a length or of posts not received
abbrev pub missing_cell : ℕ
missing_cell = 65535

-- the answer to what such a cell gives: its number, or none where nothing was received
abbrev pub CellGives : ℕ → Answer ℕ → Type 0
CellGives v (Some w) = (w ≡ v) × (v ≡ missing_cell → ⊥)
CellGives v None = v ≡ missing_cell

unfoldable pub posts_cell : Option ℕ → ℕ
posts_cell none = missing_cell
posts_cell (some v) = v

unfoldable pub length_cell : Option (List ℕ) → ℕ
length_cell none = missing_cell
length_cell (some l) = length l

-- ---- one trainee, one depot, one order

-- the cells of a list in the entries
unfoldable pub list_cells : Option (List ℕ) → List ℕ
list_cells none = []
list_cells (some l) = l

unfoldable pub depot_list_cells : Depot → List ℕ
depot_list_cells (depot p l) = list_cells l

unfoldable pub trainee_cells : ℕ → Option (List ℕ) → List ℕ
trainee_cells s l = s ∷ length_cell l ∷ []

unfoldable pub depot_cells : ℕ → Depot → List ℕ
depot_cells s (depot p l) = s ∷ length_cell l ∷ posts_cell p ∷ []

unfoldable pub kind_cell : Kind → ℕ
kind_cell held = 0
kind_cell barred = 1

-- an order has no entries, so where they start plays no part
unfoldable pub one_order : ℕ → Order → List ℕ
one_order s o = kind_cell o.kind ∷ o.trainee ∷ o.depot ∷ []

unfoldable pub weightless : {A : Type 0} → A → ℕ
weightless a = 0

-- ---- one after another

-- the cells of each, told where its entries start: the first one's at s, and each next one's behind those of the one before
unfoldable pub series_cells : {A : Type 0} → (A → ℕ) → (ℕ → A → List ℕ) → ℕ → List A → List ℕ
series_cells weight cells s [] = []
series_cells weight cells s (x ∷ xs) = cells s x ++ series_cells weight cells (s + weight x) xs

unfoldable pub joined : {A : Type 0} → (A → List ℕ) → List A → List ℕ
joined f [] = []
joined f (x ∷ xs) = f x ++ joined f xs

-- ---- the three tables

unfoldable pub head_cells : Placement → List ℕ
head_cells p =
    p.edition ∷ length p.trainees ∷ length p.depots
    ∷ (series_cells size trainee_cells 0 p.trainees ++ series_cells depot_size depot_cells (weigh size p.trainees) p.depots)

unfoldable pub entry_cells : Placement → List ℕ
entry_cells p = joined list_cells p.trainees ++ joined depot_list_cells p.depots

unfoldable pub cells_of_orders : List Order → List ℕ
cells_of_orders xs = length xs ∷ series_cells weightless one_order 0 xs

abbrev pub order_cells : Placement → List ℕ
order_cells p = cells_of_orders p.orders

-- cells laid over the front of a table
unfoldable pub laid : List ℕ → List ℕ → List ℕ
laid cells d = cells ++ drop (length cells) d

-- the tables' fronts are the cells of p, and p is legal
pub record Holds (p : Placement) (h e o : List ℕ) : Type 0 where
  pub legal : Legal p
  pub heads : h ≡ laid (head_cells p) h
  pub entries : e ≡ laid (entry_cells p) e
  pub orders : o ≡ laid (order_cells p) o

-- ---- where the cells of one stand

-- trainee i's start; the length stands behind it
abbrev pub trainee_start : ℕ → ℕ
trainee_start i = 2 * i + 1

-- of n trainees, depot j's start; the length and the posts stand behind it
abbrev pub depot_start : ℕ → ℕ → ℕ
depot_start n j = 2 * n + 3 * j

-- the cells of the order that k others stand before: its kind, its trainee and its depot
abbrev pub order_start : ℕ → ℕ
order_start k = 3 * k + 1

-- the part of the entries whose start and length stand at `at`
unfoldable pub part : List ℕ → List ℕ → ℕ → List ℕ
part h e at = take (get_or h (at + 1) 0) (drop (get_or h at 0) e)

-- everyone whom the heads count has cells
pub record HeadRoom (h : List ℕ) : Type 0 where
  pub few_trainees : get_or h 1 0 ≤ 256
  pub few_depots : get_or h 2 0 ≤ 64
  pub cells : 3 + 2 * get_or h 1 0 + 3 * get_or h 2 0 ≤ length h
