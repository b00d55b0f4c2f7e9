-- What the rows of 64 bits keep: the struck places of each trainee, and the depots at which a trainee is held or from which they are barred.
-- Rows are kept at the trainee's own number. Depot j stands at place j - 1 of an order row.
-- Assumes nothing.
use Rattle.std.specs.Prelude.{ℕ, ◌-◌, ◌<◌, ◌≡◌, Bool, true, not, List, length, get_or, ltb}
use Rattle.meaning.specs.Numbers.{In, ◌&◌}
use Rattle.meaning.specs.Lists.{place}
use Rattle.meaning.specs.Market.{Market, Standing}
use Rattle.meaning.specs.Strikes.{Struck, left?}
use Rattle.rows.specs.Marks.{is_marked, row_where}
use Rattle.tables.specs.Decode.{within}
use Rattle.ranks.specs.View.{n_of, m_of, wishes_of, ranking_of}

-- ---- struck places

-- place p of k's list is past the end, not mutual, or struck
unfoldable pub marked_at : Market → (ℕ → List ℕ) → Struck → ℕ → ℕ → Bool
marked_at K lists S k p = not (ltb p (length (lists k)) & left? K S k (get_or (lists k) p 0))

-- the rows are what the struck set makes of the lists
unfoldable pub RowsHold : Market → (ℕ → List ℕ) → Struck → List ℕ → Type 0
RowsHold K lists S rows = (k : ℕ) → In K.n k → (p : ℕ) → p < 64 → is_marked (get_or rows k 0) p ≡ marked_at K lists S k p

-- place p of i's list is past the end or not mutual
unfoldable pub shut_at : List ℕ → List ℕ → ℕ → ℕ → Bool
shut_at h e i p = not (ltb p (length (wishes_of h e i)) & ltb 0 (place (ranking_of h e (get_or (wishes_of h e i) p 0)) i))

-- the row of trainee i before the first strike
unfoldable pub start_row : List ℕ → List ℕ → ℕ → ℕ
start_row h e i = row_where (shut_at h e i)

-- ---- orders

-- the pairs of 1 to n and 1 to m that order rows mark
unfoldable pub row_pairs : ℕ → ℕ → List ℕ → ℕ → ℕ → Bool
row_pairs n m rows i j = within n i & (within m j & is_marked (get_or rows i 0) (j - 1))

-- the rows mark the pairs that orders of these kinds name
unfoldable pub standing_of : List ℕ → List ℕ → List ℕ → Standing
standing_of h holds bars = record {
  held = row_pairs (n_of h) (m_of h) holds;
  barred = row_pairs (n_of h) (m_of h) bars;
}

-- the order rows are long enough and mark depots of 1 to m only
pub record OrderRows (h holds bars : List ℕ) : Type 0 where
  pub holds_long : n_of h < length holds
  pub bars_long : n_of h < length bars
  pub holds_inside : (i : ℕ) → In (n_of h) i → (p : ℕ) → p < 64 → is_marked (get_or holds i 0) p ≡ true → p < m_of h
