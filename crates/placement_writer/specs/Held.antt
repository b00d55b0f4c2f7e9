-- What cells of the lent tables say: what the functions that write a line are promised against.
-- Assumes nothing.
use Rattle.std.specs.Prelude.{Option as Answer, Some, None, ℕ, zero, suc, ◌+◌, ◌≤◌, ◌<◌, ◌≡◌, true, false, List, [], ◌∷◌, length, get_or, eqb}
use Rattle.std.proofs.Math.Option.{Option, none, some}
use Rattle.meaning.specs.Placement.{Kind, held, barred, Order, Depot, depot}
use Rattle.tables.specs.Cells.{missing_cell, part}
use Rattle.tables.specs.declared.Kind.{Kind as Given}
use Rattle.tables.specs.declared.Kind.TheVariants.{Held, Barred}

-- a length or posts, by the cell
unfoldable pub number_in : ℕ → Option ℕ
number_in v = elim (eqb v missing_cell) [ true ↦ none | false ↦ some v ]

-- the same, by what the cell gave
abbrev pub received_in : Answer ℕ → Option ℕ
received_in (Some v) = some v
received_in None = none

-- the list whose start and length stand at `at`
unfoldable pub list_in : List ℕ → List ℕ → ℕ → Option (List ℕ)
list_in h e at = elim (eqb (get_or h (at + 1) 0) missing_cell) [ true ↦ none | false ↦ some (part h e at) ]

-- the depot whose start, length and posts stand at `at`
unfoldable pub depot_in : List ℕ → List ℕ → ℕ → Depot
depot_in h e at = depot (number_in (get_or h (at + 2) 0)) (list_in h e at)

unfoldable pub kind_in : ℕ → Kind
kind_in v = elim (eqb v 0) [ true ↦ held | false ↦ barred ]

-- the same, by what the cell gave
abbrev pub kind_given : Answer Given → Kind
kind_given (Some Held) = held
kind_given (Some Barred) = barred
kind_given None = barred

-- the order whose kind, trainee and depot stand at `at`
unfoldable pub order_in : List ℕ → ℕ → Order
order_in o at = record { kind = kind_in (get_or o at 0); trainee = get_or o (at + 1) 0; depot = get_or o (at + 2) 0 }

-- f i, f (i + 1), .., d of them
unfoldable pub run : {A : Type 0} → (ℕ → A) → ℕ → ℕ → List A
run f zero i = []
run f (suc d) i = f i ∷ run f d (i + 1)

-- the cells at `at` are there, and a list that was received lies within the entries
pub record ListRoom (h e : List ℕ) (at : ℕ) : Type 0 where
  pub cells : at + 1 < length h
  pub fits : (get_or h (at + 1) 0 ≡ missing_cell → ⊥) → get_or h at 0 + get_or h (at + 1) 0 ≤ length e
