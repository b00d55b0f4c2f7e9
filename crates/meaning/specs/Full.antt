-- A placement in which everything was received: the only way from a placement to what it means.
-- Where a list or posts were not received there is no full placement, and the first such line is known (document 01, number 7).
-- Assumes nothing.
use Rattle.std.specs.Prelude.{ℕ, ◌+◌, Bool, true, false, List, [], ◌∷◌, ◌++◌, length}
use Rattle.std.proofs.Math.Option.{Option, none, some}
use Rattle.meaning.specs.Numbers.{◌or◌}
use Rattle.meaning.specs.Placement.{Depot, depot, Placement}

pub record FullDepot : Type 0 where
  pub posts : ℕ
  pub list : List ℕ

-- both sides, received; the orders stand beside them
pub record Full : Type 0 where
  pub trainees : List (List ℕ)
  pub depots : List FullDepot

-- all of it, or the first line where something is lacking
pub data Received (A : Type 0) : Type 0 where
  whole : A → Received A
  lacking : ℕ → Received A

unfoldable pub and_then : {A B : Type 0} → Received A → (A → Received B) → Received B
and_then (whole a) f = f a
and_then (lacking l) f = lacking l

-- what stands on line l
unfoldable pub on_line : {A : Type 0} → ℕ → Option A → Received A
on_line l none = lacking l
on_line l (some a) = whole a

unfoldable pub full_depot : ℕ → Depot → Received FullDepot
full_depot l (depot p e) = and_then (on_line l p) (λ q. and_then (on_line l e) (λ k. whole (record { posts = q; list = k })))

-- one to a line, the first of them on line l
unfoldable pub all_from : {A B : Type 0} → (ℕ → A → Received B) → ℕ → List A → Received (List B)
all_from f l [] = whole []
all_from f l (x ∷ xs) = and_then (f l x) (λ y. and_then (all_from f (l + 1) xs) (λ ys. whole (y ∷ ys)))

-- the trainees' lines begin below line 1, and the depots' below those
unfoldable pub full : Placement → Received Full
full p =
    and_then (all_from on_line 2 p.trainees)
    (λ ts. and_then (all_from full_depot (length p.trainees + 2) p.depots) (λ ds. whole (record { trainees = ts; depots = ds })))

-- ---- the lines where something was not received, from the top: the first of them is the line that refusal 7 gives

unfoldable pub is_not_received : {A : Type 0} → Option A → Bool
is_not_received none = true
is_not_received (some a) = false

unfoldable pub depot_lacks : Depot → Bool
depot_lacks (depot p e) = is_not_received p or is_not_received e

-- one to a line, the first of them on line l
unfoldable pub lines_where : {A : Type 0} → (A → Bool) → ℕ → List A → List ℕ
lines_where f l [] = []
lines_where f l (x ∷ xs) = elim (f x) [ true ↦ l ∷ lines_where f (l + 1) xs | false ↦ lines_where f (l + 1) xs ]

unfoldable pub lacking_lines : Placement → List ℕ
lacking_lines p = lines_where is_not_received 2 p.trainees ++ lines_where depot_lacks (length p.trainees + 2) p.depots
