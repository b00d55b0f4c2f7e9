-- The stability test's answer (document 01, "The stability test takes a table alone"): held and barred pairs don't matter to it.
-- Assumes nothing.
use Rattle.std.specs.Prelude.{ℕ, zero, suc, true, false, not, List, [], ◌∷◌, ltb}
use Rattle.std.proofs.Math.Option.{Option, none, some}
use Rattle.meaning.specs.Numbers.{◌&◌, smallest}
use Rattle.meaning.specs.Full.{Full}
use Rattle.meaning.specs.Market.{Market, Table, mutual?, placed, market, trainee_list}
use Rattle.meaning.specs.Endings.{blocks?, table_of}
use Rattle.meaning.specs.declared.Tested.{Tested}
use Rattle.meaning.specs.declared.Tested.TheVariants.{Stable, NotMutual, OverPosts, Blocking}

-- the first trainee whose depot isn't mutual
unfoldable pub first_stranger : Market → Table → Option ℕ
first_stranger K M = smallest K.n (λ i. ltb 0 (M i) & not (mutual? K i (M i)))

-- the smallest depot over its posts
unfoldable pub first_over : Market → Table → Option ℕ
first_over K M = smallest K.m (λ j. ltb (K.posts j) (placed K M j))

-- the highest on a list that blocks with trainee i
unfoldable pub first_on : Market → Table → ℕ → List ℕ → Option ℕ
first_on K M i [] = none
first_on K M i (j ∷ js) = elim (blocks? K M i j) [ true ↦ some j | false ↦ first_on K M i js ]

-- trainee i with the depot found, or what the trainees after give
unfoldable pub blocking_or : ℕ → Option ℕ → Tested → Tested
blocking_or i (some j) rest = Blocking i j
blocking_or i none rest = rest

-- the blocking pair of the smallest of trainees i, i + 1, .., d of them, highest on that list
unfoldable pub blocking_from : Market → (ℕ → List ℕ) → Table → ℕ → ℕ → Tested
blocking_from K lists M zero i = Stable
blocking_from K lists M (suc d) i = blocking_or i (first_on K M i (lists i)) (blocking_from K lists M d (suc i))

unfoldable pub stranger_or : Option ℕ → Tested → Tested
stranger_or (some i) rest = NotMutual i
stranger_or none rest = rest

unfoldable pub over_or : Option ℕ → Tested → Tested
over_or (some j) rest = OverPosts j
over_or none rest = rest

unfoldable pub test_by : Market → (ℕ → List ℕ) → Table → Tested
test_by K lists M = stranger_or (first_stranger K M) (over_or (first_over K M) (blocking_from K lists M K.n 1))

-- the answer for a table's cells
unfoldable pub test : Full → List ℕ → Tested
test F l = test_by (market F) (trainee_list F) (table_of l)
