-- What stands in the front of a table after its first cells were set.
-- Assumes nothing.
use Prim.Native.Nat.{ℕ, ◌≤◌}
use mathlib.Core.Path.{◌≡◌, sym, ap, ◌∙◌}
use mathlib.Core.List.{List}
use native.Mathlib.Omega.{arith}
use lib.ListN.{length, take, set, length-set}
use lib.Seq.{sets, sets-eq, take_at}

-- what was set from the first cell on stands in front
pub front : (d cells : List ℕ) (k : ℕ) → length cells ≤ length d → k ≡ length cells → take k (sets d 0 cells) ≡ cells
front d cells k h e = ap (λ z. take k z) (sets-eq cells d 0 (omega arith)) ∙ take_at cells _ k (sym e)

-- the first three cells are set, and no length changes
pub first_three : (d e : List ℕ) (x y z : ℕ) → length e ≡ length (set (set (set d 0 x) 1 y) 2 z) → length e ≡ length d
first_three d e x y z h = h ∙ simp length-set
