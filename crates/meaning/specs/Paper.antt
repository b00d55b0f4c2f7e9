-- Section 2.2 of document 000 in its own terms, over sets of pairs: acceptable pairs, matchings, blocking pairs, stable matchings.
-- Assumes nothing.
use Rattle.std.specs.Prelude.{ℕ, ◌≤◌, ◌<◌, ◌≡◌, ◌⊎◌, Bool, true, false, ltb, leb, eqb}
use Rattle.std.proofs.Math.Option.{Option, none, some}
use Rattle.meaning.specs.Numbers.{In, ◌&◌, count, smallest}
use Rattle.meaning.specs.Market.{Market, Table}

abbrev pub PairSet : Type 0
PairSet = ℕ → ℕ → Bool

-- the set E: the trainee is one of 1 to n and on the depot's list, the depot is one of 1 to m and on the trainee's list
pub record Acceptable (K : Market) (i j : ℕ) : Type 0 where
  pub trainee : In K.n i
  pub depot : In K.m j
  pub on_depots_list : 0 < K.depot_rank j i
  pub on_trainees_list : 0 < K.trainee_rank i j

-- how many depots the set gives trainee i, and how many trainees depot j
unfoldable pub depots_of : Market → PairSet → ℕ → ℕ
depots_of K X i = count K.m (λ j. X i j)

unfoldable pub trainees_of : Market → PairSet → ℕ → ℕ
trainees_of K X j = count K.n (λ i. X i j)

-- a subset of E with at most one depot for each trainee, and at most as many trainees for each depot as it has posts
pub record PaperMatching (K : Market) (X : PairSet) : Type 0 where
  pub subset : (i j : ℕ) → X i j ≡ true → Acceptable K i j
  pub once : (i : ℕ) → In K.n i → depots_of K X i ≤ 1
  pub capacity : (j : ℕ) → In K.m j → trainees_of K X j ≤ K.posts j

-- a pair of E outside X: the trainee is unassigned or is assigned to a worse depot, and the depot is under-subscribed or has a worse trainee
pub record PaperBlocks (K : Market) (X : PairSet) (i j : ℕ) : Type 0 where
  pub acceptable : Acceptable K i j
  pub outside : X i j ≡ false
  pub trainee_wants : (depots_of K X i ≡ 0) ⊎ ((k : ℕ) × In K.m k × (X i k ≡ true) × (K.trainee_rank i j < K.trainee_rank i k))
  pub depot_wants : (trainees_of K X j < K.posts j) ⊎ ((l : ℕ) × In K.n l × (X l j ≡ true) × (K.depot_rank j i < K.depot_rank j l))

pub record PaperStable (K : Market) (X : PairSet) : Type 0 where
  pub matching : PaperMatching K X
  pub unblocked : (i j : ℕ) → PaperBlocks K X i j → ⊥

-- ---- tables and sets of pairs

-- the pairs of a table
unfoldable pub pairs_of : Market → Table → PairSet
pairs_of K M i j = (leb 1 i & leb i K.n) & (ltb 0 j & eqb (M i) j)

unfoldable pub or_none : Option ℕ → ℕ
or_none none = 0
or_none (some j) = j

-- the table of a set of pairs: each trainee's depot, 0 for none
unfoldable pub table_from : Market → PairSet → Table
table_from K X i = or_none (smallest K.m (X i))
