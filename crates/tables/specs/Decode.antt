-- The placement that tables hold, if any: number 8 is given back where there is none.
-- Each step reads the cells in front and goes on with those behind, so that cells which a table lacks hold nothing.
-- Assumes nothing.
use Rattle.std.specs.Prelude.{ℕ, zero, suc, ◌+◌, ◌*◌, Bool, true, false, not, List, [], ◌∷◌, length, take, drop, leb, eqb}
use Rattle.std.proofs.Math.Option.{Option, none, some}
use Rattle.meaning.specs.Numbers.{◌&◌}
use Rattle.meaning.specs.Lists.{member, weigh}
use Rattle.meaning.specs.Placement.{Kind, held, barred, Order, Depot, depot, Placement, size, depot_size}
use Rattle.tables.specs.Cells.{missing_cell, weightless}

-- ---- one value after another

unfoldable pub next : {A B : Type 0} → Option A → (A → Option B) → Option B
next none k = none
next (some a) k = k a

unfoldable pub when : {A : Type 0} → Bool → Option A → Option A
when true o = o
when false o = none

-- ---- one list, one number of posts, one order

-- v is one of 1 to hi
unfoldable pub within : ℕ → ℕ → Bool
within hi v = leb 1 v & leb v hi

-- every entry is one of 1 to hi, and none comes again
unfoldable pub good_entries : ℕ → List ℕ → Bool
good_entries hi [] = true
good_entries hi (x ∷ xs) = within hi x & not (member x xs) & good_entries hi xs

-- the list whose length cell is v, in front of the entries es
unfoldable pub list_from : ℕ → ℕ → List ℕ → Option (Option (List ℕ))
list_from hi v es =
    elim (eqb v missing_cell) [ true ↦ some none | false ↦ when (leb v hi & leb v (length es) & good_entries hi (take v es)) (some (some (take v es))) ]

unfoldable pub posts_from : ℕ → Option (Option ℕ)
posts_from v = elim (eqb v missing_cell) [ true ↦ some none | false ↦ when (leb v 256) (some (some v)) ]

-- the entries of the next list start at s
unfoldable pub trainee_from : ℕ → ℕ → List ℕ → List ℕ → Option (Option (List ℕ))
trainee_from m s [] es = none
trainee_from m s (a ∷ []) es = none
trainee_from m s (a ∷ v ∷ hs) es = when (eqb a s) (list_from m v es)

unfoldable pub depot_from : ℕ → ℕ → List ℕ → List ℕ → Option Depot
depot_from n s [] es = none
depot_from n s (a ∷ []) es = none
depot_from n s (a ∷ v ∷ []) es = none
depot_from n s (a ∷ v ∷ p ∷ hs) es = when (eqb a s) (next (posts_from p) (λ q. next (list_from n v es) (λ l. some (depot q l))))

unfoldable pub kind_from : ℕ → Option Kind
kind_from zero = some held
kind_from (suc zero) = some barred
kind_from (suc (suc k)) = none

unfoldable pub pair_from : ℕ → ℕ → ℕ → ℕ → Kind → Option Order
pair_from n m i j k = when (within n i & within m j) (some (record { kind = k; trainee = i; depot = j }))

unfoldable pub order_from : ℕ → ℕ → ℕ → List ℕ → List ℕ → Option Order
order_from n m s [] es = none
order_from n m s (k ∷ []) es = none
order_from n m s (k ∷ i ∷ []) es = none
order_from n m s (k ∷ i ∷ j ∷ os) es = next (kind_from k) (pair_from n m i j)

-- ---- one after another

-- d of them, each with the given number of cells; their entries start at s
unfoldable pub series_from : {A : Type 0} → (ℕ → List ℕ → List ℕ → Option A) → (A → ℕ) → ℕ → ℕ → ℕ → List ℕ → List ℕ → Option (List A)
series_from one weight wide zero s hs es = some []
series_from one weight wide (suc d) s hs es =
    next (one s hs es) (λ a. next (series_from one weight wide d (s + weight a) (drop wide hs) (drop (weight a) es)) (λ rest. some (a ∷ rest)))

abbrev pub trainees_from : ℕ → ℕ → List ℕ → List ℕ → Option (List (Option (List ℕ)))
trainees_from n m hs e = series_from (trainee_from m) size 2 n 0 hs e

abbrev pub depots_from : ℕ → ℕ → ℕ → List ℕ → List ℕ → Option (List Depot)
depots_from n m s hs es = series_from (depot_from n) depot_size 3 m s hs es

abbrev pub orders_from : ℕ → ℕ → ℕ → List ℕ → Option (List Order)
orders_from n m c os = series_from (order_from n m) weightless 3 c 0 os []

-- ---- heads and entries: both sides

pub record Sides : Type 0 where
  pub edition : ℕ
  pub trainees : List (Option (List ℕ))
  pub depots : List Depot

unfoldable pub limits : ℕ → ℕ → ℕ → Bool
limits ed n m = eqb ed 1 & leb n 256 & leb m 64

-- the lists and posts, from the cells behind the first three
unfoldable pub lists_from : ℕ → ℕ → ℕ → List ℕ → List ℕ → Option Sides
lists_from ed n m hs e =
    next (trainees_from n m hs e) (λ ts. when (leb (weigh size ts) 4096)
    (next (depots_from n m (weigh size ts) (drop (2 * n) hs) (drop (weigh size ts) e)) (λ ds. when (leb (weigh depot_size ds) 4096)
    (some (record { edition = ed; trainees = ts; depots = ds })))))

unfoldable pub sides_of : List ℕ → List ℕ → Option Sides
sides_of [] e = none
sides_of (ed ∷ []) e = none
sides_of (ed ∷ n ∷ []) e = none
sides_of (ed ∷ n ∷ m ∷ hs) e = when (limits ed n m) (lists_from ed n m hs e)

-- ---- orders, of any number

unfoldable pub orders_of : ℕ → ℕ → List ℕ → Option (List Order)
orders_of n m [] = none
orders_of n m (c ∷ os) = orders_from n m c os

-- the limit of a file, and not of solving
unfoldable pub few_orders_of : ℕ → ℕ → List ℕ → Option (List Order)
few_orders_of n m o = next (orders_of n m o) (λ xs. when (leb (length xs) 1024) (some xs))

-- ---- the placement

abbrev pub placement_with : Sides → List Order → Placement
placement_with b xs = record { edition = b.edition; trainees = b.trainees; depots = b.depots; orders = xs }

unfoldable pub placement_of : List ℕ → List ℕ → List ℕ → Option Placement
placement_of h e o = next (sides_of h e) (λ b. next (few_orders_of (length b.trainees) (length b.depots) o) (λ xs. some (placement_with b xs)))
