-- What a placement says, and which are legal (document 01, "What a placement means", first paragraph).
-- A list or a number of posts is received, `some`, or not received, `none`. A received list may be empty, and 0 is a received number.
-- Assumes nothing.
use Rattle.std.specs.Prelude.{ℕ, ◌≤◌, ◌≡◌, List, length}
use Rattle.std.proofs.Math.Option.{Option, none, some}
use Rattle.meaning.specs.Numbers.{In}
use Rattle.meaning.specs.Lists.{Distinct, Each, weigh}

-- a pair that planners hold or bar
pub data Kind : Type 0 where
  held barred : Kind

pub record Order : Type 0 where
  pub kind : Kind
  pub trainee : ℕ
  pub depot : ℕ

-- posts and list, each received or not
pub data Depot : Type 0 where
  depot : Option ℕ → Option (List ℕ) → Depot

-- trainees and depots are numbered from 1 in the order in which they stand; orders are in file order
pub record Placement : Type 0 where
  pub edition : ℕ
  pub trainees : List (Option (List ℕ))
  pub depots : List Depot
  pub orders : List Order

-- how many entries a list, or a depot's list, has in the text
unfoldable pub size : Option (List ℕ) → ℕ
size none = 0
size (some l) = length l

unfoldable pub depot_size : Depot → ℕ
depot_size (depot p l) = size l

-- ---- the limits

-- distinct numbers of 1 to hi, so no more than hi of them
pub record LegalEntries (hi : ℕ) (l : List ℕ) : Type 0 where
  pub short : length l ≤ hi
  pub range : Each (In hi) l
  pub distinct : Distinct l

pub data LegalList (hi : ℕ) : Option (List ℕ) → Type 0 where
  no_list : LegalList hi none
  a_list : {l : List ℕ} → LegalEntries hi l → LegalList hi (some l)

pub data LegalPosts : Option ℕ → Type 0 where
  no_posts : LegalPosts none
  some_posts : {p : ℕ} → p ≤ 256 → LegalPosts (some p)

pub data LegalDepot (n : ℕ) : Depot → Type 0 where
  legal_depot : {p : Option ℕ} {l : Option (List ℕ)} → LegalPosts p → LegalList n l → LegalDepot n (depot p l)

pub record LegalOrder (n m : ℕ) (o : Order) : Type 0 where
  pub trainee : In n o.trainee
  pub depot : In m o.depot

pub record Legal (p : Placement) : Type 0 where
  pub edition : p.edition ≡ 1
  pub n : length p.trainees ≤ 256
  pub m : length p.depots ≤ 64
  pub trainees : Each (LegalList (length p.depots)) p.trainees
  pub trainee_entries : weigh size p.trainees ≤ 4096
  pub depots : Each (LegalDepot (length p.trainees)) p.depots
  pub depot_entries : weigh depot_size p.depots ≤ 4096
  pub orders : Each (LegalOrder (length p.trainees) (length p.depots)) p.orders
  pub few_orders : length p.orders ≤ 1024
