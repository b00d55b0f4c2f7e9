-- The definitions compute: the cells of the paper's whole case, of one with a list not received, and cells that no reader fills.
-- Assumes nothing.
use Prim.Native.Nat.{ℕ}
use mathlib.Core.Path.{◌≡◌, refl}
use mathlib.Core.Option.{Option, none, some}
use mathlib.Core.List.{List, [], ◌∷◌, map}
use Rattle.meaning.specs.Numbers.{◌&◌}
use Rattle.meaning.specs.Lists.{member, weigh}
use Rattle.meaning.specs.Placement.{depot, Placement, size, depot_size}
use Rattle.meaning.specs.Examples.{bar, whole_case}
use Rattle.tables.specs.Cells.{posts_cell, length_cell, list_cells, depot_list_cells, trainee_cells, depot_cells, kind_cell, one_order, weightless, series_cells, joined, head_cells, entry_cells, cells_of_orders, order_cells}
use Rattle.tables.specs.Decode.{next, when, within, good_entries, list_from, posts_from, trainee_from, depot_from, kind_from, pair_from, order_from, series_from, limits, lists_from, sides_of, orders_of, few_orders_of, placement_of}

-- the cells of a placement's three tables
pub record Tables : Type 0 where
  pub heads : List ℕ
  pub entries : List ℕ
  pub orders : List ℕ

abbrev cells_of : Placement → Tables
cells_of p = record { heads = head_cells p; entries = entry_cells p; orders = order_cells p }

abbrev held : Tables → Option Placement
held t = placement_of t.heads t.entries t.orders

-- the whole case with (2, 1) barred
abbrev whole-tables : Tables
whole-tables = record {
  heads = 1 ∷ 3 ∷ 2 ∷ 0 ∷ 2 ∷ 2 ∷ 2 ∷ 4 ∷ 1 ∷ 5 ∷ 3 ∷ 1 ∷ 8 ∷ 2 ∷ 1 ∷ [];
  entries = 1 ∷ 2 ∷ 1 ∷ 2 ∷ 1 ∷ 2 ∷ 1 ∷ 3 ∷ 1 ∷ 2 ∷ [];
  orders = 1 ∷ 1 ∷ 2 ∷ 1 ∷ [];
}

-- trainee 1's list is received and empty, trainee 2's is not received; the depot's posts are not received
abbrev lacking-tables : Tables
lacking-tables = record { heads = 1 ∷ 2 ∷ 1 ∷ 0 ∷ 0 ∷ 0 ∷ 65535 ∷ 0 ∷ 1 ∷ 65535 ∷ []; entries = 2 ∷ []; orders = 0 ∷ [] }

abbrev lacking-placement : Placement
lacking-placement = record { edition = 1; trainees = some [] ∷ none ∷ []; depots = depot none (some (2 ∷ [])) ∷ []; orders = [] }

pub cells_are : (cells_of (whole_case (bar 2 1 ∷ [])) ≡ whole-tables) × (cells_of lacking-placement ≡ lacking-tables)
unfolding head_cells entry_cells cells_of_orders series_cells joined trainee_cells depot_cells one_order kind_cell weightless list_cells depot_list_cells length_cell posts_cell size depot_size weigh
cells_are = (refl, refl)

-- tables, and what they hold
pub record Example : Type 0 where
  pub tables : Tables
  pub holds : Option Placement

abbrev example : Tables → Option Placement → Example
example t p = record { tables = t; holds = p }

-- one trainee and one depot that rank each other, the trainee's start, the depot's posts and the entries as given, and the cells of one order
abbrev single : ℕ → ℕ → List ℕ → List ℕ → Tables
single start posts entries order = record { heads = 1 ∷ 1 ∷ 1 ∷ start ∷ 1 ∷ 1 ∷ 1 ∷ posts ∷ []; entries = entries; orders = 1 ∷ order }

unfoldable pub examples : List Example
examples =
    example whole-tables (some (whole_case (bar 2 1 ∷ [])))
    ∷ example lacking-tables (some lacking-placement)
    -- a start one off; 257 posts; a depot past m; entries that end too soon
    ∷ example (single 1 1 (1 ∷ 1 ∷ []) (0 ∷ 1 ∷ 1 ∷ [])) none
    ∷ example (single 0 257 (1 ∷ 1 ∷ []) (0 ∷ 1 ∷ 1 ∷ [])) none
    ∷ example (single 0 1 (2 ∷ 1 ∷ []) (0 ∷ 1 ∷ 1 ∷ [])) none
    ∷ example (single 0 1 (1 ∷ []) (0 ∷ 1 ∷ 1 ∷ [])) none
    -- an order of no kind, an order of no trainee
    ∷ example (single 0 1 (1 ∷ 1 ∷ []) (2 ∷ 1 ∷ 1 ∷ [])) none
    ∷ example (single 0 1 (1 ∷ 1 ∷ []) (0 ∷ 0 ∷ 1 ∷ [])) none
    -- a list that names depot 1 twice; another edition
    ∷ example (record { heads = 1 ∷ 1 ∷ 2 ∷ 0 ∷ 2 ∷ 2 ∷ 0 ∷ 1 ∷ 2 ∷ 0 ∷ 1 ∷ []; entries = 1 ∷ 1 ∷ []; orders = 0 ∷ [] }) none
    ∷ example (record { heads = 2 ∷ 0 ∷ 0 ∷ []; entries = []; orders = 0 ∷ [] }) none
    ∷ []

pub examples-are : map (λ x. held x.tables) examples ≡ map (λ x. x.holds) examples
unfolding examples placement_of sides_of lists_from few_orders_of orders_of series_from trainee_from depot_from order_from pair_from kind_from list_from posts_from good_entries within limits when next member weigh size depot_size weightless ◌&◌
examples-are = refl
