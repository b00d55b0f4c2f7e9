-- What the answers of the reader's functions say, by cases on the answer. A reader that finds q at the front of a text leaves r.
-- Assumes nothing.
use Rattle.std.specs.Prelude.{ℕ, ◌≡◌, List, [], ◌∷◌, Result, Ok, Err}
use Rattle.std.proofs.lemmas.List.Edits.{sets}
use Rattle.meaning.specs.Answers.{reason_number, reason_witness, fault_number}
use Rattle.meaning.specs.Endings.{Outcome}
use Rattle.meaning.specs.Solver.{WholeRuling, ending_of, head_of}
use Rattle.meaning.specs.declared.Reason.{Reason}
use Rattle.meaning.specs.declared.Ending.{Ending}
use Rattle.meaning.specs.declared.Ending.TheVariants.{Placed, NoneHeld, NoneRoom}
use Rattle.meaning.specs.declared.Ruling.{Ruling}
use Rattle.fields.specs.Reader.{Step, got, refusal}
use Rattle.fields.specs.declared.Wrong.{Wrong}
use Rattle.fields.specs.declared.Misread.{Misread}
use Rattle.ruling_text.specs.declared.sizes.Sizes.{Sizes}
use Rattle.ruling_text.specs.Reader.{Pair, Head, Read, taken, refused, read_ruling}
use Rattle.ruling_text.specs.Cells.{joined, strike_cells, table_cells}

-- ---- numbers of one line

-- a value with these numbers was read, and r is left
pub record Numbered {A : Type 0} (numbers : A → List ℕ) (step : Step A) (vs r : List ℕ) : Type 0 where
  pub it : A
  pub goes : step ≡ got it r
  pub said : numbers it ≡ vs

abbrev pub NumbersRead : {A : Type 0} → (A → List ℕ) → Step A → List ℕ → Result (List ℕ) Wrong → Type 0
NumbersRead numbers step r (Ok vs) = Numbered numbers step vs r
NumbersRead numbers step r (Err x) = step ≡ refusal (fault_number x.fault) 0 x.field

abbrev pub pair_numbers : Pair → List ℕ
pair_numbers p = p.trainee ∷ p.depot ∷ []

abbrev pub reason_numbers : Reason → List ℕ
reason_numbers r = reason_number r ∷ reason_witness r ∷ []

abbrev pub cell_numbers : ℕ → List ℕ
cell_numbers j = j ∷ []

-- ---- the first line

abbrev pub head_of_sizes : Sizes → Head
head_of_sizes z = record { n = z.trainees; s = z.strikes }

abbrev pub HeadRead : Step Head → List ℕ → Result Sizes Wrong → Type 0
HeadRead step r (Ok z) = step ≡ got (head_of_sizes z) r
HeadRead step r (Err x) = step ≡ refusal (fault_number x.fault) 0 x.field

-- ---- lines

-- the numbers of the lines that were read stand in the front of the cells, no other cell has changed, and r is left
pub record Filled {A : Type 0} (numbers : A → List ℕ) (step : Step (List A)) (t t' r : List ℕ) : Type 0 where
  pub them : List A
  pub goes : step ≡ got them r
  pub cells : t' ≡ sets t 0 (joined numbers them)

abbrev pub RowsRead : {A : Type 0} → (A → List ℕ) → Step (List A) → List ℕ → List ℕ → List ℕ → Result (Unit {0}) Misread → Type 0
RowsRead numbers step t t' r (Ok _) = Filled numbers step t t' r
RowsRead numbers step t t' r (Err x) = step ≡ refusal (fault_number x.fault) x.line x.field

-- ---- the outcome and the end

-- an outcome with this ending was read, its table stands in the front of the cells, no other cell has changed, and r is left
pub record Concluded (step : Step Outcome) (t t' : List ℕ) (ending : Ending) (r : List ℕ) : Type 0 where
  pub it : Outcome
  pub goes : step ≡ got it r
  pub said : ending_of it ≡ ending
  pub cells : t' ≡ sets t 0 (table_cells it)

-- where there is no table, no cell changes
abbrev pub NoneRead : Step Outcome → List ℕ → Result Ending Wrong → Type 0
NoneRead step r (Ok ending) = (t : List ℕ) → Concluded step t t ending r
NoneRead step r (Err x) = step ≡ refusal (fault_number x.fault) 0 x.field

abbrev pub ConclusionRead : Step Outcome → List ℕ → List ℕ → List ℕ → Result Ending Misread → Type 0
ConclusionRead step t t' r (Ok ending) = Concluded step t t' ending r
ConclusionRead step t t' r (Err x) = step ≡ refusal (fault_number x.fault) x.line x.field

-- a number of an outcome with this ending: n where there is a table
abbrev pub placed_or : ℕ → ℕ → Ending → ℕ
placed_or none n Placed = n
placed_or none n (NoneHeld i j) = none
placed_or none n (NoneRoom i j) = none

-- how many lines it has
abbrev pub ending_lines : ℕ → Ending → ℕ
ending_lines n ending = placed_or 1 n ending

-- ---- the whole text

-- the front of the cells holds the ruling, and no other cell has changed
pub record Laid (r : WholeRuling) (head : Ruling) (table table' cells cells' : List ℕ) : Type 0 where
  pub said : head_of r ≡ head
  pub in_table : table' ≡ sets table 0 (table_cells r.outcome)
  pub in_cells : cells' ≡ sets cells 0 (strike_cells r.strikes)

pub record BodyTaken (step : Step WholeRuling) (head : Ruling) (table table' cells cells' : List ℕ) : Type 0 where
  pub it : WholeRuling
  pub goes : step ≡ got it []
  pub laid : Laid it head table table' cells cells'

abbrev pub BodyRead : Step WholeRuling → List ℕ → List ℕ → List ℕ → List ℕ → Result Ruling Misread → Type 0
BodyRead step table table' cells cells' (Ok head) = BodyTaken step head table table' cells cells'
BodyRead step table table' cells cells' (Err x) = step ≡ refusal (fault_number x.fault) x.line x.field

pub record TextTaken (s : List ℕ) (head : Ruling) (table table' cells cells' : List ℕ) : Type 0 where
  pub it : WholeRuling
  pub goes : read_ruling s ≡ taken it
  pub laid : Laid it head table table' cells cells'

abbrev pub TextRead : List ℕ → List ℕ → List ℕ → List ℕ → List ℕ → Result Ruling Misread → Type 0
TextRead s table table' cells cells' (Ok head) = TextTaken s head table table' cells cells'
TextRead s table table' cells cells' (Err x) = read_ruling s ≡ refused (fault_number x.fault) x.line x.field

-- how many cells of the table an outcome of n trainees with this ending uses
abbrev pub ending_cells : ℕ → Ending → ℕ
ending_cells n ending = placed_or 0 n ending

-- a refusal's number, line and field
pub record Refused : Type 0 where
  pub number : ℕ
  pub line : ℕ
  pub field : ℕ

abbrev pub refused_as : ℕ → ℕ → ℕ → Result Ruling Refused
refused_as e l k = Err (record { number = e; line = l; field = k })

abbrev pub as_numbers : Result Ruling Misread → Result Ruling Refused
as_numbers (Ok head) = Ok head
as_numbers (Err x) = refused_as (fault_number x.fault) x.line x.field

-- the answer, and what the lent cells hold afterwards
pub record Answered : Type 0 where
  pub answer : Result Ruling Refused
  pub table : List ℕ
  pub cells : List ℕ

abbrev pub answered : Result Ruling Misread → List ℕ → List ℕ → Answered
answered r table cells = record { answer = as_numbers r; table = table; cells = cells }

-- a ruling changes the cells that it uses, and a refusal none
unfoldable pub answered_by : Read → List ℕ → List ℕ → Answered
answered_by (taken r) table cells = record { answer = Ok (head_of r); table = sets table 0 (table_cells r.outcome); cells = sets cells 0 (strike_cells r.strikes) }
answered_by (refused e l k) table cells = record { answer = refused_as e l k; table = table; cells = cells }
