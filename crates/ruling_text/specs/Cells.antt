-- A ruling in plain cells: four cells to a strike, and one cell of the table to a trainee.
-- Assumes nothing.
use Rattle.std.specs.Prelude.{ℕ, zero, suc, ◌+◌, ◌*◌, ◌≡◌, List, [], ◌∷◌, ◌++◌, get_or, take}
use Rattle.meaning.specs.Answers.{strike_numbers}
use Rattle.meaning.specs.Endings.{Outcome, placed_by, none_held, none_room}
use Rattle.meaning.specs.Solver.{WholeRuling}
use Rattle.meaning.specs.declared.Strike.{Strike}
use Rattle.meaning.specs.declared.Ending.{Ending}
use Rattle.meaning.specs.declared.Ending.TheVariants.{Placed, NoneHeld, NoneRoom}
use Rattle.rulings.specs.Legal.{LegalRuling}
use Rattle.ruling_text.specs.Reader.{reason_of}

unfoldable pub joined : {A : Type 0} → (A → List ℕ) → List A → List ℕ
joined f [] = []
joined f (x ∷ xs) = f x ++ joined f xs

-- the cells of strikes: trainee, depot, the reason's number and the witness of each
unfoldable pub strike_cells : List Strike → List ℕ
strike_cells xs = joined strike_numbers xs

-- the cells of a table; without one none is used
unfoldable pub table_cells : Outcome → List ℕ
table_cells (placed_by l) = l
table_cells (none_held i j) = []
table_cells (none_room i j) = []

-- ---- what cells say

-- the strike whose cells begin at p
unfoldable pub strike_at : List ℕ → ℕ → Strike
strike_at cells p =
    record { trainee = get_or cells p 0; depot = get_or cells (p + 1) 0; reason = reason_of (get_or cells (p + 2) 0) (get_or cells (p + 3) 0) }

-- c strikes from the cell p on
unfoldable pub strikes_from : List ℕ → ℕ → ℕ → List Strike
strikes_from cells zero p = []
strikes_from cells (suc c) p = strike_at cells p ∷ strikes_from cells c (p + 4)

unfoldable pub strikes_in : List ℕ → ℕ → List Strike
strikes_in cells count = strikes_from cells count 0

unfoldable pub outcome_in : ℕ → Ending → List ℕ → Outcome
outcome_in n Placed table = placed_by (take n table)
outcome_in n (NoneHeld i j) table = none_held i j
outcome_in n (NoneRoom i j) table = none_room i j

unfoldable pub ruling_in : ℕ → ℕ → Ending → List ℕ → List ℕ → WholeRuling
ruling_in n count ending table cells = record { trainees = n; strikes = strikes_in cells count; outcome = outcome_in n ending table }

-- the cells are those of a legal ruling
pub record Held (n count : ℕ) (ending : Ending) (table cells : List ℕ) : Type 0 where
  pub legal : LegalRuling (ruling_in n count ending table cells)
  pub strikes : strike_cells (strikes_in cells count) ≡ take (4 * count) cells
