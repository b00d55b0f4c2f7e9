-- What the searches of the stability test go by: how many trainees each depot has, and the worst rank among them.
-- Assumes nothing.
use Rattle.std.specs.Prelude.{ℕ, zero, suc, ◌-◌, ◌≤◌, ◌<◌, ◌≡◌, Bool, true, false, not, List, length, get_or, ltb, eqb}
use Rattle.std.specs.Prelude as rust
use Rattle.std.proofs.Math.Option.{Option, none, some}
use Rattle.meaning.specs.Numbers.{In, ◌&◌, ◌or◌, count}
use Rattle.meaning.specs.Lists.{place}
use Rattle.meaning.specs.Market.{Market, Table, Mutual, mutual?}
use Rattle.meaning.specs.Endings.{table_of}
use Rattle.ranks.specs.View.{n_of, market_of, FullTables}

-- ---- the first that is wrong

unfoldable pub found_of : rust.Option ℕ → Option ℕ
found_of (rust.Some k) = some k
found_of rust.None = none

-- trainee i has a depot that isn't mutual
abbrev pub stranger? : Market → Table → ℕ → Bool
stranger? K M i = ltb 0 (M i) & not (mutual? K i (M i))

-- a place counted from 1, if there is one
unfoldable pub rank_in : ℕ → rust.Option ℕ
rank_in zero = rust.None
rank_in (suc p) = rust.Some (suc p)

-- ---- what is counted once for all pairs

unfoldable pub larger : ℕ → ℕ → ℕ
larger a b = elim (ltb a b) [ true ↦ b | false ↦ a ]

-- the largest place on j's list among those of trainees 1 to k whom the table gives j; 0 where it gives none
unfoldable pub worst_of : Market → Table → ℕ → ℕ → ℕ
worst_of K M zero j = 0
worst_of K M (suc k) j = elim (eqb (M (suc k)) j) [ true ↦ larger (worst_of K M k j) (K.depot_rank j (suc k)) | false ↦ worst_of K M k j ]

-- at each depot's own number, 0 to 64: how many of trainees 1 to k the table gives it, and the worst rank among them
abbrev pub Counts : Table → ℕ → List ℕ → Type 0
Counts M k counts = (j : ℕ) → j ≤ 64 → get_or counts j 0 ≡ count k (λ i. eqb (M i) j)

abbrev pub Worsts : Market → Table → ℕ → List ℕ → Type 0
Worsts K M k worsts = (j : ℕ) → j ≤ 64 → get_or worsts j 0 ≡ worst_of K M k j

-- ---- blocking

-- how many places of a trainee's list stand above their own depot x; all of them where that is 0
unfoldable pub places_above : List ℕ → ℕ → ℕ
places_above l x = elim (eqb x 0) [ true ↦ length l | false ↦ place l x - 1 ]

-- a depot with this many posts and trainees and this worst rank among them ranks the trainee at r, and has room or one whom it ranks below
unfoldable pub takes_at : ℕ → ℕ → ℕ → ℕ → Bool
takes_at r posts count worst = ltb 0 r & (ltb count posts or ltb r worst)

-- ---- what the code asks for

-- the tables are full, and t has a cell for each trainee
pub record TestTables (h e t : List ℕ) : Type 0 where
  pub full : FullTables h e
  pub cells : length t ≡ n_of h

-- and each pair of t is mutual
pub record PairTables (h e t : List ℕ) : Type 0 where
  pub tables : TestTables h e t
  pub pairs : (i : ℕ) → In (n_of h) i → 0 < table_of t i → Mutual (market_of h e) i (table_of t i)

-- with the counts and the worst ranks of every depot
pub record SearchTables (h e t counts worsts : List ℕ) : Type 0 where
  pub paired : PairTables h e t
  pub counted : Counts (table_of t) (n_of h) counts
  pub ranked : Worsts (market_of h e) (table_of t) (n_of h) worsts
