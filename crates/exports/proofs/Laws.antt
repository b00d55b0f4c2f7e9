-- The test of the answer's cells, the numbers that are laid over them, and the strikes that are laid over the lent cells.
-- Assumes nothing.
use Prim.Native.Nat.{ℕ, ◌*◌, ◌/◌, ◌≤◌, ◌<◌}
use mathlib.Core.Path.{◌≡◌, sym, ap, ap₂, ◌∙◌}
use mathlib.Core.Option.{some}
use mathlib.Core.List.{List, [], ◌∷◌, ◌++◌}
use native.Mathlib.Omega.{arith}
use lib.ListN.{length, drop}
use lib.Seq.{take_all}
use borrow.Author.Tests.{le-leb, lt-leb}
use Rattle.std.specs.Prelude.{Result}
use Rattle.meaning.specs.declared.Ruling.{Ruling}
use Rattle.meaning.specs.declared.Refusal.{Refusal}
use Rattle.meaning.specs.Answers.{ruled_numbers}
use Rattle.tables.specs.Cells.{laid}
use Rattle.strikes.specs.Cells.{strikes_in, cells_of, flat, recorded}
use Rattle.strikes.proofs.Encoding.{count-strikes}
use Rattle.strikes.proofs.Rows.{cells-length}
use Rattle.solver.specs.Answer.{solve_of, given_by}
use Rattle.solver.proofs.Fits.{given-fits}
use Rattle.exports.specs.Calls.{call, answered, in_eight, after_solving}

-- ---- the answer's cells

module _ {A : Type 0} (answer : List ℕ) (few many : A) where
  pub fewer : length answer < 8 → few ≡ in_eight answer few many
  unfolding in_eight
  fewer h = rw (lt-leb 8 (length answer) h, in_eight)

  pub enough : 8 ≤ length answer → many ≡ in_eight answer few many
  unfolding in_eight
  enough h = rw (le-leb 8 (length answer) h, in_eight)

-- what is laid and returned are the numbers
pub answers : (numbers answer answer' : List ℕ) (r : ℕ) (parts : List (List ℕ)) → (r ≡ length numbers) × (answer' ≡ laid numbers answer) → call r answer' parts ≡ answered numbers answer parts
answers numbers answer answer' r parts given = ap₂ (λ n l. call n l parts) given.0 given.1

-- ---- solving

module _ (h e o t cells : List ℕ) (r : Result Ruling Refusal) (t' scratch : List ℕ) (solved : solve_of h e o t (length cells / 4) ≡ some (given_by r t' scratch)) where
  -- the strikes fit into the cells and the scratch
  pub strikes-fit : (4 * recorded r ≤ 16384) × (4 * recorded r ≤ length cells)
  strikes-fit =
      let f = given-fits h e o t (length cells / 4) (given_by r t' scratch) solved in
      let n = count-strikes scratch (recorded r) in
      (omega (arith, f.in_cells, n), omega (arith, f.in-record, n))

  -- flattened over the cells, they are laid over them
  flat-laid : flat (strikes_in scratch (recorded r)) cells (recorded r) ≡ laid (cells_of (strikes_in scratch (recorded r))) cells
  unfolding laid
  flat-laid =
      let n : length (strikes_in scratch (recorded r)) ≡ recorded r = count-strikes scratch (recorded r) in
      ap₂ (λ ss k. cells_of ss ++ drop k cells) (take_all (recorded r) (strikes_in scratch (recorded r)) (omega arith)) (sym (cells-length (strikes_in scratch (recorded r)) ∙ ap (λ k. 4 * k) n))

  -- the answer, the table and the cells are what is given
  pub solving : (answer answer' out : List ℕ) (n count : ℕ) → count ≡ recorded r → out ≡ flat (strikes_in scratch count) cells count
      → ((parts : List (List ℕ)) → call n answer' parts ≡ answered (ruled_numbers r) answer parts) → after_solving (solve_of h e o t (length cells / 4)) cells answer ≡ some (call n answer' (t' ∷ out ∷ []))
  unfolding after_solving
  solving answer answer' out n count counted filled numbers =
      let out-is : out ≡ laid (cells_of (strikes_in scratch (recorded r))) cells = filled ∙ ap (λ k. flat (strikes_in scratch k) cells k) counted ∙ flat-laid in
      ap (λ g. after_solving g cells answer) solved ∙ ap (λ z. some z) (sym (numbers (t' ∷ out ∷ []) ∙ ap (λ z. answered (ruled_numbers r) answer (t' ∷ z ∷ [])) out-is))
