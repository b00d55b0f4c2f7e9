-- The orders that a table of orders holds, as a list, and what such a table meets.
-- Assumes nothing.
use Rattle.std.specs.Prelude.{ℕ, zero, suc, ◌+◌, ◌-◌, ◌*◌, ◌≤◌, ◌<◌, ◌≡◌, Bool, true, false, List, [], ◌∷◌, ◌++◌, length, get_or, set}
use Rattle.reasons.specs.Rows.{OrderRows}
use Rattle.meaning.specs.Numbers.{In}
use Rattle.meaning.specs.Lists.{some?}
use Rattle.meaning.specs.Placement.{Kind, held, barred, Order}
use Rattle.meaning.specs.Market.{names}
use Rattle.rows.specs.Marks.{is_marked, with_mark}
use Rattle.tables.specs.Cells.{order_start}
use Rattle.ranks.specs.View.{n_of, m_of}

unfoldable pub kind_of : ℕ → Kind
kind_of zero = held
kind_of (suc k) = barred

-- the order at k, counted from 0
unfoldable pub order_in : List ℕ → ℕ → Order
order_in o k = record { kind = kind_of (get_or o (order_start k) 0); trainee = get_or o (order_start k + 1) 0; depot = get_or o (order_start k + 2) 0 }

abbrev pub trainee_in : List ℕ → ℕ → ℕ
trainee_in o k = get_or o (order_start k + 1) 0

abbrev pub depot_in : List ℕ → ℕ → ℕ
depot_in o k = get_or o (order_start k + 2) 0

-- the first `count` orders
unfoldable pub orders_in : List ℕ → ℕ → List Order
orders_in o zero = []
orders_in o (suc k) = orders_in o k ++ (order_in o k ∷ [])

-- the table has cells for its orders, and they name trainees and depots
pub record FullOrders (h o : List ℕ) : Type 0 where
  pub cells : 1 + 3 * get_or o 0 0 ≤ length o
  pub trainee : (k : ℕ) → k < get_or o 0 0 → In (n_of h) (get_or o (order_start k + 1) 0)
  pub depot : (k : ℕ) → k < get_or o 0 0 → In (m_of h) (get_or o (order_start k + 2) 0)

-- ---- the rows of orders

-- the rows with (i, j) marked, if the test says so
unfoldable pub mark_for : Bool → List ℕ → ℕ → ℕ → List ℕ
mark_for b rows i j = elim b [ true ↦ set rows i (with_mark (get_or rows i 0) (j - 1)) | false ↦ rows ]

-- the rows keep the pairs that the first k orders name
pub record Noted (h o : List ℕ) (k : ℕ) (holds bars : List ℕ) : Type 0 where
  pub rows : OrderRows h holds bars
  pub held_noted : (i j : ℕ) → In (n_of h) i → In (m_of h) j → is_marked (get_or holds i 0) (j - 1) ≡ some? (names held i j) (orders_in o k)
  pub barred_noted : (i j : ℕ) → In (n_of h) i → In (m_of h) j → is_marked (get_or bars i 0) (j - 1) ≡ some? (names barred i j) (orders_in o k)
