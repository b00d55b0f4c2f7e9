-- Strikes (document 01, "Strikes and endings"): the four reasons, records of strikes, the left table.
-- Assumes nothing.
use Rattle.std.specs.Prelude.{ℕ, ◌≤◌, ◌<◌, ◌≡◌, Bool, true, false, not, List, [], ◌∷◌, ◌++◌, ltb, leb, eqb}
use Rattle.meaning.specs.Numbers.{In, ◌&◌, imp, all, sum, count}
use Rattle.meaning.specs.Market.{Market, Standing, Table, Mutual, mutual?}
use Rattle.meaning.specs.declared.Reason.{Reason}
use Rattle.meaning.specs.declared.Reason.TheVariants.{Barred, HeldElsewhere, PostsGone, Passed}
use Rattle.meaning.specs.declared.Strike.{Strike}

-- the pairs struck so far
abbrev pub Struck : Type 0
Struck = ℕ → ℕ → Bool

abbrev pub nothing : Struck
nothing i j = false

-- ---- the four reasons

-- every mutual pair that k ranks above j is struck
unfoldable pub above_struck : Market → Struck → ℕ → ℕ → Bool
above_struck K S k j = all K.m (λ j'. imp (mutual? K k j' & ltb (K.trainee_rank k j') (K.trainee_rank k j)) (S k j'))

-- every mutual pair of k down to and including j is struck
unfoldable pub down_struck : Market → Struck → ℕ → ℕ → Bool
down_struck K S k j = all K.m (λ j'. imp (mutual? K k j' & leb (K.trainee_rank k j') (K.trainee_rank k j)) (S k j'))

-- k is mutual with j and ranked by j above i
unfoldable pub ahead : Market → ℕ → ℕ → ℕ → Bool
ahead K i j k = mutual? K k j & ltb (K.depot_rank j k) (K.depot_rank j i)

-- the reason fits the pair (i, j)
unfoldable pub fits : Market → Standing → Struck → ℕ → ℕ → Reason → Bool
fits K O S i j Barred = O.barred i j
fits K O S i j (HeldElsewhere j') = O.held i j' & not (eqb j' j)
fits K O S i j PostsGone = leb (K.posts j) (count K.n (λ k. ahead K i j k & above_struck K S k j))
fits K O S i j (Passed k) = ahead K i j k & down_struck K S k j

-- (i, j) may be struck now for this reason: mutual, not struck so far, and the reason fits
unfoldable pub allowed : Market → Standing → Struck → ℕ → ℕ → Reason → Bool
allowed K O S i j r = mutual? K i j & (not (S i j) & fits K O S i j r)

-- ---- records

abbrev pub allowed_strike : Market → Standing → Struck → Strike → Bool
allowed_strike K O S x = allowed K O S x.trainee x.depot x.reason

-- what is struck after a record, where S₀ was struck before
unfoldable pub struck : Struck → List Strike → Struck
struck S₀ [] i j = S₀ i j
struck S₀ (x ∷ xs) i j = elim (eqb x.trainee i & eqb x.depot j) [ true ↦ true | false ↦ struck S₀ xs i j ]

-- each strike is allowed after those before it
pub data AllowedRecord (K : Market) (O : Standing) (S₀ : Struck) : List Strike → Type 0 where
  start : AllowedRecord K O S₀ []
  more : {rec : List Strike} (x : Strike) → AllowedRecord K O S₀ rec → allowed_strike K O (struck S₀ rec) x ≡ true → AllowedRecord K O S₀ (rec ++ (x ∷ []))

-- the same read from the front: after the record in hand, these are allowed in turn
pub data AllowedFrom (K : Market) (O : Standing) (S₀ : Struck) : List Strike → List Strike → Type 0 where
  end : {rec : List Strike} → AllowedFrom K O S₀ rec []
  next : {rec xs : List Strike} (x : Strike) → allowed_strike K O (struck S₀ rec) x ≡ true
      → AllowedFrom K O S₀ (rec ++ (x ∷ [])) xs → AllowedFrom K O S₀ rec (x ∷ xs)

-- nothing may be struck any more
unfoldable pub Exhausted : Market → Standing → Struck → Type 0
Exhausted K O S = (i j : ℕ) (r : Reason) → allowed K O S i j r ≡ false

-- ---- the pairs left

-- a mutual pair, not struck
unfoldable pub left? : Market → Struck → ℕ → ℕ → Bool
left? K S i j = mutual? K i j & not (S i j)

-- the first of a list that is left to trainee i, 0 where none is
unfoldable pub first_left : Market → Struck → ℕ → List ℕ → ℕ
first_left K S i [] = 0
first_left K S i (j ∷ js) = elim (left? K S i j) [ true ↦ j | false ↦ first_left K S i js ]

-- L gives each trainee their best mutual pair not struck, or none
pub record Left (K : Market) (S : Struck) (L : Table) : Type 0 where
  pub pairs : (i : ℕ) → In K.n i → 0 < L i → Mutual K i (L i)
  pub unstruck : (i : ℕ) → In K.n i → 0 < L i → S i (L i) ≡ false
  pub sits : (i j : ℕ) → Mutual K i j → S i j ≡ false → 0 < L i
  pub best : (i j : ℕ) → Mutual K i j → S i j ≡ false → K.trainee_rank i (L i) ≤ K.trainee_rank i j

-- ---- how many

-- how many pairs are struck
unfoldable pub weight : Market → Struck → ℕ
weight K S = sum K.n (λ i. count K.m (λ j. S i j))

-- how many pairs are mutual
unfoldable pub mutual_pairs : Market → ℕ
mutual_pairs K = weight K (mutual? K)
