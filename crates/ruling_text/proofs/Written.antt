-- The lines of a table, by its cells.
-- Assumes nothing.
use Prim.Native.Nat.{ℕ, ◌+◌}
use mathlib.Core.Path.{◌≡◌, sym, ap, ◌∙◌}
use mathlib.Core.List.{List}
use native.Mathlib.Omega.{arith}
use lib.ListN.{length, get_or, take}
use lib.Seq.{get_or-take}
use Rattle.meaning.specs.Endings.{placed_by}
use Rattle.fields.specs.Writer.{write_lines, lines_by}
use Rattle.fields.proofs.Pens.{by-lines}
use Rattle.rulings.specs.Legal.{LegalOutcome, legal_table}
use Rattle.ruling_text.specs.Writer.{write_cell}

-- the lines of a table's first n cells
pub cell-lines : (table : List ℕ) (n : ℕ) → length (take n table) ≡ n → lines_by (λ i. write_cell (i + 1) (get_or table i 0)) 0 n ≡ write_lines write_cell 1 (take n table)
cell-lines table n fit =
    ap (lines_by (λ i. write_cell (i + 1) (get_or table i 0)) 0) (sym fit)
    ∙ by-lines write_cell (λ i. write_cell (i + 1) (get_or table i 0)) 0 (take n table) 1 0 (λ j h.
    let e : 0 + j ≡ j = omega arith in
    let m : j + 1 ≡ 1 + j = omega arith in
    rw (e, m) (ap (write_cell (1 + j)) (sym (get_or-take n table j 0 (omega arith)))))

-- ---- the outcome

-- a legal table has a cell for each trainee
pub table_cells_fit : {n : ℕ} {l : List ℕ} → LegalOutcome n (placed_by l) → length l ≡ n
table_cells_fit (legal_table e h) = e
