-- What reading a placement text answers, and what the lent tables hold afterwards (document 01, "Numbers given back").
-- Assumes nothing.
use Rattle.std.specs.Prelude.{true, false, List, ℕ, Result, Ok, Err}
use Rattle.meaning.specs.Answers.{SHORT_PART, refusal}
use Rattle.meaning.specs.declared.Refusal.{Refusal}
use Rattle.tables.specs.Cells.{head_cells, entry_cells, order_cells, laid}
use Rattle.tables.specs.Answers.{sized}
use Rattle.placement_text.specs.Reader.{Read, taken, refused, read_text}

-- the answer, and every cell of the three lent tables
pub record Reads : Type 0 where
  pub answer : Result (Unit {0}) Refusal
  pub heads : List ℕ
  pub entries : List ℕ
  pub orders : List ℕ

abbrev pub reads : Result (Unit {0}) Refusal → List ℕ → List ℕ → List ℕ → Reads
reads r h e o = record { answer = r; heads = h; entries = e; orders = o }

-- a refusal changes no lent cell; on success only used cells change. The field of a refusal is not given back
unfoldable pub reading : Read → List ℕ → List ℕ → List ℕ → Reads
reading (taken p) h e o = reads (Ok tt) (laid (head_cells p) h) (laid (entry_cells p) e) (laid (order_cells p) o)
reading (refused x l f) h e o = reads (Err (refusal x l)) h e o

-- number 1 is tried first, then number 2 and the text
unfoldable pub reading_of : List ℕ → List ℕ → List ℕ → List ℕ → Reads
reading_of s h e o = elim (sized h e o) [ true ↦ reading (read_text s) h e o | false ↦ reads (Err (refusal SHORT_PART 0)) h e o ]
