-- What writing a placement answers, and what the output holds afterwards (document 01, "Numbers given back").
-- Assumes nothing.
use Rattle.std.specs.Prelude.{ℕ, true, false, List, length, leb, Result, Ok, Err}
use Rattle.std.proofs.Math.Option.{Option, none, some}
use Rattle.meaning.specs.Numbers.{◌&◌}
use Rattle.meaning.specs.Placement.{Placement}
use Rattle.meaning.specs.Answers.{SHORT_PART, NOT_READ, refusal}
use Rattle.meaning.specs.declared.Refusal.{Refusal}
use Rattle.tables.specs.Cells.{laid}
use Rattle.tables.specs.Decode.{placement_of}
use Rattle.tables.specs.Answers.{sized}
use Rattle.placement_text.specs.Writer.{text_of}

-- the answer, and every cell of the output; the tables are lent to be read
pub record Writes : Type 0 where
  pub answer : Result ℕ Refusal
  pub out : List ℕ

abbrev pub writes : Result ℕ Refusal → List ℕ → Writes
writes r out = record { answer = r; out = out }

-- number 8 where the tables hold no placement; else its text over the front of the output, and its length
unfoldable pub writing : Option Placement → List ℕ → Writes
writing none out = writes (Err (refusal NOT_READ 0)) out
writing (some p) out = writes (Ok (length (text_of p))) (laid (text_of p) out)

-- number 1 is tried first, then number 8
unfoldable pub writing_of : List ℕ → List ℕ → List ℕ → List ℕ → Writes
writing_of h e o out = elim (sized h e o & leb 65536 (length out)) [ true ↦ writing (placement_of h e o) out | false ↦ writes (Err (refusal SHORT_PART 0)) out ]
