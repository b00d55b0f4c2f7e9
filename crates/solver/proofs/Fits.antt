-- The strikes of every answer fit into the record and into the cells.
-- Assumes nothing.
use Prim.Native.Nat.{ℕ, ◌≤◌}
use mathlib.Core.Path.{◌≡◌, refl, sym, ◌∙◌, subst}
use mathlib.Core.Bool.{Bool, true, false}
use mathlib.Core.Option.{Option, none, some}
use mathlib.Core.List.{List}
use native.Mathlib.Omega.{arith}
use lib.ListN.{length}
use borrow.Author.Tests.{leb-true}
use Rattle.solver.specs.Answer.{Given, refusing, solve_if_full, solve_if_read, solve_of}
use Rattle.rulings.specs.Held.{roomy}
use Rattle.meaning.specs.Placement.{Placement}
use Rattle.meaning.specs.Full.{Full, Received, whole, lacking, and_then, full}
use Rattle.meaning.specs.Solver.{WholeRuling, solve, ruled}
use Rattle.meaning.specs.Answers.{SHORT_PART, NOT_RECEIVED, NOT_READ}
use Rattle.meaning.proofs.Booleans.{and_right, some-own}
use Rattle.tables.specs.Answers.{sized}
use Rattle.tables.specs.Decode.{placement_of}
use Rattle.tables.proofs.Round.{tables-back}
use Rattle.rulings.proofs.Solved.{solved-legal}

pub record Fits (room : ℕ) (g : Given) : Type 0 where
  pub in-record : length g.strikes ≤ room
  pub in_cells : length g.strikes ≤ 4096

module _ (h e o t : List ℕ) (room : ℕ) where
  none-fit : (g : Given) (number line : ℕ) → ◌≡◌ {A = Option Given} (some (refusing number line t)) (some g) → Fits room g
  none-fit g number line q = subst (Fits room) (some-own q) (record { in-record = omega arith; in_cells = omega arith })

  long-record : roomy h e o (length t) room ≡ true → 4096 ≤ room
  unfolding roomy
  long-record k = leb-true _ _ (and_right _ _ (and_right (sized h e o) _ k))

  few : (p : Placement) (F : Full) → placement_of h e o ≡ some p → full p ≡ whole F → (w : WholeRuling) → solve F p.orders ≡ some w → length w.strikes ≤ 4096
  few p F k l w q = (solved-legal p F (tables-back h e o p k).legal l w q).few_strikes

  pub given-fits : (g : Given) → solve_of h e o t room ≡ some g → Fits room g
  unfolding solve_of solve_if_read solve_if_full ruled and_then
  given-fits g q = by-room (roomy h e o (length t) room) refl
    where
      by-solve : 4096 ≤ room → (p : Placement) (F : Full) → placement_of h e o ≡ some p → full p ≡ whole F → (s : Option WholeRuling) → solve F p.orders ≡ s
          → solve_if_full (whole s) t ≡ some g → Fits room g
      by-solve long p F k l none x y = absurd (let z : ◌≡◌ {A = ℕ} 0 1 = cc in omega arith)
      by-solve long p F k l (some w) x y =
          subst (Fits room) (some-own y) (record { in-record = omega (arith, few p F k l w x, long); in_cells = few p F k l w x })

      by-full : 4096 ≤ room → (p : Placement) → placement_of h e o ≡ some p → (r : Received Full) → full p ≡ r
          → solve_if_full (and_then r (λ F. whole (solve F p.orders))) t ≡ some g → Fits room g
      by-full long p k (lacking l) x y = none-fit g NOT_RECEIVED l y
      by-full long p k (whole F) x y = by-solve long p F k x (solve F p.orders) refl y

      by_read : 4096 ≤ room → (q : Option Placement) → placement_of h e o ≡ q → solve_if_read q t ≡ some g → Fits room g
      by_read long none x y = none-fit g NOT_READ 0 y
      by_read long (some p) x y = by-full long p x (full p) refl y

      by-room : (b : Bool) → roomy h e o (length t) room ≡ b → Fits room g
      by-room true x =
          let is : solve_of h e o t room ≡ solve_if_read (placement_of h e o) t = rw (x, solve_of) in
          by_read (long-record x) (placement_of h e o) refl (sym is ∙ q)
      by-room false x =
          let is : solve_of h e o t room ≡ some (refusing SHORT_PART 0 t) = rw (x, solve_of) in
          none-fit g SHORT_PART 0 (sym is ∙ q)
