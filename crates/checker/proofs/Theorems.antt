-- What the checker's answer says (T13), and that what it accepts is true and it accepts the solver's own ruling (T14), for the answer that `check_cells` promises.
-- Assumes nothing.

-- p is the placement that the tables hold, and F its full form
use Prim.Native.Nat.{ℕ}
use mathlib.Core.Path.{◌≡◌, ◌∙◌}
use mathlib.Core.Option.{some}
use mathlib.Core.List.{List}
use lib.ListN.{length}
use Rattle.std.specs.Prelude.{Ok}
use Rattle.checker.specs.Check.{check_in}
use Rattle.rulings.specs.Held.{ruling_in}
use Rattle.strikes.specs.Cells.{strikes_in}
use Rattle.checker.proofs.Placements.{seen, legal}
use Rattle.meaning.specs.Placement.{Placement}
use Rattle.meaning.specs.Full.{Full, whole, full}
use Rattle.meaning.specs.Solver.{solve}
use Rattle.meaning.specs.Checker.{check}
use Rattle.meaning.specs.Demands.{CheckerKeeps}
use Rattle.meaning.proofs.Full.{legal-full, legal-orders}
use Rattle.meaning.proofs.Checker.{solved-accepted}
use Rattle.meaning.proofs.Demands.{checker-keeps}
use Rattle.tables.specs.Decode.{placement_of}
use Rattle.ranks.specs.View.{n_of}
use Rattle.ranks.proofs.Held.{market-held, lists-held}
use Rattle.reasons.proofs.Noting.{orders-same}
use Rattle.meaning.specs.declared.Ruling.{Ruling}

module _ (h e o : List ℕ) (p : Placement) (F : Full) (held_by : placement_of h e o ≡ some p) (its_full : full p ≡ whole F) where
  -- a ruling of as many trainees, with its table and the cells of its strikes
  module _ (r : Ruling) (table cells : List ℕ) (same-n : r.trainees ≡ n_of h) where
    -- the answer is the meaning's answer for that placement
    pub checks-placement : check_in h e o r table cells ≡ check F p.orders (ruling_in r table (strikes_in cells r.strikes))
    unfolding check_in check ruling_in
    checks-placement =
        let w = seen h e o p F held_by its_full in
        rw (same-n, orders-same (length F.trainees) (length F.depots) o p.orders w.orders, ← market-held h e F w.sides, ← lists-held h e F w.sides)

    -- T13: which steps are allowed in turn, and which is the first that isn't. T14: what is accepted is true
    pub cells-keep : CheckerKeeps p F (ruling_in r table (strikes_in cells r.strikes)) (check_in h e o r table cells)
    cells-keep = rw checks-placement (checker-keeps p (legal h e o p F held_by its_full) F its_full (ruling_in r table (strikes_in cells r.strikes)))

    -- T14: the solver's own ruling is accepted
    pub cells-solved : solve F p.orders ≡ some (ruling_in r table (strikes_in cells r.strikes)) → check_in h e o r table cells ≡ Ok tt
    cells-solved s = checks-placement ∙ solved-accepted F (legal-full p F (legal h e o p F held_by its_full) its_full) p.orders (legal-orders p F (legal h e o p F held_by its_full) its_full) (ruling_in r table (strikes_in cells r.strikes)) s
