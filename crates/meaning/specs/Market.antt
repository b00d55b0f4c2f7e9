-- What a full placement means (document 01, "What a placement means", second paragraph; document 000, section 2.2):
-- mutual pairs, matchings, blocking pairs, stable and respecting matchings.
-- Trainees are 1 to n and depots 1 to m. A rank is a place on a list, counted from 1; 0 is unranked. In a table 0 is no depot.
-- Assumes nothing.
use Rattle.std.specs.Prelude.{ℕ, ◌≤◌, ◌<◌, ◌≡◌, Bool, true, false, List, [], ◌∷◌, length, get_or, ltb, eqb}
use Rattle.meaning.specs.Numbers.{In, ◌&◌, count}
use Rattle.meaning.specs.Lists.{place, some?}
use Rattle.meaning.specs.Placement.{Kind, held, barred, Order}
use Rattle.meaning.specs.Full.{FullDepot, Full}

-- ---- ranks and posts

-- the place of a depot on a trainee's list, the place of a trainee on a depot's list, and the posts
pub record Market : Type 0 where
  pub n : ℕ
  pub m : ℕ
  pub trainee_rank : ℕ → ℕ → ℕ
  pub depot_rank : ℕ → ℕ → ℕ
  pub posts : ℕ → ℕ

-- the list of trainee i; there is nothing on it where i is no trainee
unfoldable pub trainee_list : Full → ℕ → List ℕ
trainee_list F i = get_or ([] ∷ F.trainees) i []

-- what stands in the place of a depot that is none
abbrev pub no_depot : FullDepot
no_depot = record { posts = 0; list = [] }

unfoldable pub depot_of : Full → ℕ → FullDepot
depot_of F j = get_or (no_depot ∷ F.depots) j no_depot

unfoldable pub market : Full → Market
market F = record {
  n = length F.trainees;
  m = length F.depots;
  trainee_rank = λ i j. place (trainee_list F i) j;
  depot_rank = λ j i. place (depot_of F j).list i;
  posts = λ j. (depot_of F j).posts;
}

-- ---- the orders that stand beside it

pub record Standing : Type 0 where
  pub held : ℕ → ℕ → Bool
  pub barred : ℕ → ℕ → Bool

unfoldable pub same_kind : Kind → Kind → Bool
same_kind held held = true
same_kind held barred = false
same_kind barred held = false
same_kind barred barred = true

-- the order is of this kind and names this pair
unfoldable pub names : Kind → ℕ → ℕ → Order → Bool
names k i j o = same_kind k o.kind & (eqb o.trainee i & eqb o.depot j)

unfoldable pub standing : List Order → Standing
standing os = record { held = λ i j. some? (names held i j) os; barred = λ i j. some? (names barred i j) os }

-- ---- what a legal placement's market meets

-- ranks are in range
pub record Ranged (K : Market) : Type 0 where
  pub trainee_in_range : (i j : ℕ) → 0 < K.trainee_rank i j → In K.n i
  pub depot_in_range : (i j : ℕ) → 0 < K.trainee_rank i j → In K.m j

-- no two share a rank
pub record Strict (K : Market) : Type 0 where
  pub trainee_strict : (i j j' : ℕ) → 0 < K.trainee_rank i j → K.trainee_rank i j ≡ K.trainee_rank i j' → j ≡ j'
  pub depot_strict : (j i i' : ℕ) → 0 < K.depot_rank j i → K.depot_rank j i ≡ K.depot_rank j i' → i ≡ i'

-- held and barred pairs are of trainees and depots
pub record OrdersRanged (K : Market) (O : Standing) : Type 0 where
  pub held_trainee : (i j : ℕ) → O.held i j ≡ true → In K.n i
  pub held_depot : (i j : ℕ) → O.held i j ≡ true → In K.m j
  pub barred_trainee : (i j : ℕ) → O.barred i j ≡ true → In K.n i
  pub barred_depot : (i j : ℕ) → O.barred i j ≡ true → In K.m j

pub record Lawful (K : Market) (O : Standing) : Type 0 where
  pub ranged : Ranged K
  pub strict : Strict K
  pub orders : OrdersRanged K O

-- ---- matchings

-- the depot of each trainee, 0 for none
abbrev pub Table : Type 0
Table = ℕ → ℕ

-- a pair is mutual if each ranks the other
pub record Mutual (K : Market) (i j : ℕ) : Type 0 where
  pub ranks : 0 < K.trainee_rank i j
  pub ranked : 0 < K.depot_rank j i

unfoldable pub mutual? : Market → ℕ → ℕ → Bool
mutual? K i j = ltb 0 (K.trainee_rank i j) & ltb 0 (K.depot_rank j i)

-- how many trainees a table gives depot j
unfoldable pub placed : Market → Table → ℕ → ℕ
placed K M j = count K.n (λ k. eqb (M k) j)

-- mutual pairs only, each trainee at most once (a table gives one depot), each depot at most its posts
pub record Matching (K : Market) (M : Table) : Type 0 where
  pub pairs : (i : ℕ) → In K.n i → 0 < M i → Mutual K i (M i)
  pub within : (j : ℕ) → In K.m j → placed K M j ≤ K.posts j

-- the trainee has no depot or ranks this one above their own
pub data Gains (K : Market) (M : Table) (i j : ℕ) : Type 0 where
  free : M i ≡ 0 → Gains K M i j
  better : K.trainee_rank i j < K.trainee_rank i (M i) → Gains K M i j

-- the depot has fewer trainees than posts or has one whom it ranks below this trainee
pub data Takes (K : Market) (M : Table) (i j : ℕ) : Type 0 where
  spare : placed K M j < K.posts j → Takes K M i j
  worse : (k : ℕ) → In K.n k → M k ≡ j → K.depot_rank j i < K.depot_rank j k → Takes K M i j

-- a mutual pair outside the matching blocks it; one who gains by j, or is ranked above another at j, isn't at j
pub record Blocks (K : Market) (M : Table) (i j : ℕ) : Type 0 where
  pub pair : Mutual K i j
  pub gains : Gains K M i j
  pub takes : Takes K M i j

pub record Stable (K : Market) (M : Table) : Type 0 where
  pub matching : Matching K M
  pub unblocked : (i j : ℕ) → Blocks K M i j → ⊥

-- stable, with every held pair and no barred pair
pub record Respecting (K : Market) (O : Standing) (M : Table) : Type 0 where
  pub stable : Stable K M
  pub holds : (i j : ℕ) → O.held i j ≡ true → M i ≡ j
  pub avoids : (i j : ℕ) → O.barred i j ≡ true → M i ≡ j → ⊥
