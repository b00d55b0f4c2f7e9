-- From what a core promises of plain cells to what the public function promises of the record: all that the walks use of the meaning.
-- Assumes nothing.
use Prim.Native.Nat.{ℕ, ◌≤◌, ◌*◌}
use mathlib.Core.Path.{◌≡◌}
use mathlib.Core.Option.{some}
use mathlib.Core.List.{List}
use native.Mathlib.Omega.{arith}
use lib.ListN.{length}
use Rattle.meaning.specs.declared.Strike.{Strike}
use Rattle.std.specs.Prelude.{Result}
use Rattle.meaning.specs.declared.Refusal.{Refusal}
use Rattle.meaning.specs.declared.Ruling.{Ruling}
use Rattle.strikes.specs.Cells.{filled, recorded}
use Rattle.strikes.proofs.Encoding.{count-strikes}
use Rattle.solver.specs.Answer.{solve_of, given_by}
use Rattle.solver.proofs.Fits.{given-fits}
use Rattle.frostcrumb.specs.Solve.{leaving_if, solving, left}

module _ (h e o t : List ℕ) (log : List Strike) (r : Result Ruling Refusal) (t' cells : List ℕ) where
  -- the strikes fit into the record and stand in the cells
  pub solve-held : solve_of h e o t (length log) ≡ some (given_by r t' cells) → length cells ≡ 16384 → (recorded r ≤ length log) × (4 * recorded r ≤ length cells)
  solve-held q long =
      let f = given-fits h e o t (length log) (given_by r t' cells) q in
      let n = count-strikes cells (recorded r) in
      (omega (arith, f.in-record, n), omega (arith, f.in_cells, n, long))

  pub solve-tells : solve_of h e o t (length log) ≡ some (given_by r t' cells) → solving h e o t log ≡ some (left r t' (filled cells log (recorded r)))
  unfolding solving leaving_if
  solve-tells q = rw q (rw (count-strikes cells (recorded r)))
