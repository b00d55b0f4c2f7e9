-- The worked examples of document 01 that are marked p: placements, and what is ruled on each.
-- Assumes nothing.
use Rattle.std.specs.Prelude.{ℕ, List, [], ◌∷◌, map}
use Rattle.std.proofs.Math.Option.{Option, none, some}
use Rattle.meaning.specs.Placement.{held, barred, Order, depot, Placement}
use Rattle.meaning.specs.Full.{FullDepot, Received, whole, lacking}
use Rattle.meaning.specs.Endings.{Outcome, placed_by, none_held, none_room}
use Rattle.meaning.specs.Solver.{WholeRuling}
use Rattle.meaning.specs.declared.Reason.{Reason}
use Rattle.meaning.specs.declared.Reason.TheVariants.{Barred, HeldElsewhere, PostsGone, Passed}
use Rattle.meaning.specs.declared.Strike.{Strike}

-- a placement of edition 1 in which every list and all posts are received
abbrev pub full_of : List (List ℕ) → List FullDepot → List Order → Placement
full_of ts ds os = record { edition = 1; trainees = map some ts; depots = map (λ (d : FullDepot). depot (some d.posts) (some d.list)) ds; orders = os }

abbrev pub with_posts : ℕ → List ℕ → FullDepot
with_posts p l = record { posts = p; list = l }

abbrev pub hold : ℕ → ℕ → Order
hold i j = record { kind = held; trainee = i; depot = j }

abbrev pub bar : ℕ → ℕ → Order
bar i j = record { kind = barred; trainee = i; depot = j }

abbrev pub strike : ℕ → ℕ → Reason → Strike
strike i j r = record { trainee = i; depot = j; reason = r }

abbrev pub ruling : ℕ → List Strike → Outcome → Received (Option WholeRuling)
ruling n rec e = whole (some (record { trainees = n; strikes = rec; outcome = e }))

-- one trainee and one depot, mutual
abbrev pub single : ℕ → List Order → Placement
single posts os = full_of ((1 ∷ []) ∷ []) (with_posts posts (1 ∷ []) ∷ []) os

-- the whole case
abbrev pub whole_case : List Order → Placement
whole_case os =
    full_of
    ((1 ∷ 2 ∷ []) ∷ (1 ∷ 2 ∷ []) ∷ (1 ∷ []) ∷ [])
    (with_posts 1 (2 ∷ 1 ∷ 3 ∷ []) ∷ with_posts 1 (1 ∷ 2 ∷ []) ∷ [])
    os

-- a placement, and what is ruled on it
pub record Example : Type 0 where
  pub placement : Placement
  pub answer : Received (Option WholeRuling)

abbrev pub example : Placement → Received (Option WholeRuling) → Example
example p a = record { placement = p; answer = a }

unfoldable pub examples : List Example
examples =
    -- n 0, m 0
    example (full_of [] [] []) (ruling 0 [] (placed_by []))
    -- 0 posts; 1 post and the pair held
    ∷ example (single 0 []) (ruling 1 (strike 1 1 PostsGone ∷ []) (placed_by (0 ∷ [])))
    ∷ example (single 1 (hold 1 1 ∷ [])) (ruling 1 [] (placed_by (1 ∷ [])))
    -- 1 post, the pair held and barred
    ∷ example (single 1 (hold 1 1 ∷ bar 1 1 ∷ [])) (ruling 1 (strike 1 1 Barred ∷ []) (none_held 1 1))
    -- held at both depots, 1 first
    ∷ example (full_of ((1 ∷ 2 ∷ []) ∷ []) (with_posts 1 (1 ∷ []) ∷ with_posts 1 (1 ∷ []) ∷ []) (hold 1 1 ∷ hold 1 2 ∷ []))
    (ruling 1 (strike 1 1 (HeldElsewhere 2) ∷ strike 1 2 (HeldElsewhere 1) ∷ []) (none_held 1 1))
    -- the depot's list is received and empty; the same with that list not received
    ∷ example (full_of ((1 ∷ []) ∷ []) (with_posts 1 [] ∷ []) []) (ruling 1 [] (placed_by (0 ∷ [])))
    ∷ example (record { edition = 1; trainees = some (1 ∷ []) ∷ []; depots = depot (some 1) none ∷ []; orders = [] }) (lacking 3)
    -- 2 posts and (1, 1) barred
    ∷ example (full_of ((1 ∷ []) ∷ (1 ∷ []) ∷ []) (with_posts 2 (1 ∷ 2 ∷ []) ∷ []) (bar 1 1 ∷ []))
    (ruling 2 (strike 1 1 Barred ∷ strike 2 1 (Passed 1) ∷ []) (none_room 1 1))
    -- the whole case; the same with (2, 1) barred
    ∷ example (whole_case []) (ruling 3 (strike 1 1 PostsGone ∷ strike 2 2 PostsGone ∷ strike 3 1 PostsGone ∷ []) (placed_by (2 ∷ 1 ∷ 0 ∷ [])))
    ∷ example (whole_case (bar 2 1 ∷ []))
    (ruling 3 (strike 1 1 PostsGone ∷ strike 2 1 Barred ∷ strike 2 2 PostsGone ∷ strike 3 1 PostsGone ∷ []) (none_room 1 1))
    ∷ []
