-- What the answers of the reader's functions say, by cases on the answer.
-- Assumes nothing.
use Rattle.std.specs.Prelude.{ℕ, ◌≤◌, ◌≡◌, List, [], length, Result, Ok, Err}
use Rattle.std.proofs.Math.Option.{Option}
use Rattle.std.proofs.lemmas.List.Edits.{sets}
use Rattle.meaning.specs.Answers.{fault_number}
use Rattle.meaning.specs.Placement.{Order, Depot, Placement, size, depot_size}
use Rattle.fields.specs.Reader.{got, lines}
use Rattle.fields.specs.declared.Misread.{Misread}
use Rattle.tables.specs.Cells.{head_cells, entry_cells, order_cells}
use Rattle.placement_text.specs.Reader.{trainee_line, depot_line, head_fields, Read, taken, refused, read_text}
use Rattle.placement_text.specs.Code.{head_of}
use Rattle.placement_reader.specs.declared.Used.{Used}

abbrev pub placement_of : List (Option (List ℕ)) → List Depot → List Order → Placement
placement_of ts ds os = record { edition = 1; trainees = ts; depots = ds; orders = os }

-- what was read of both sides behind the first line: their cells stand in the fronts, and r is left
pub record Both (n m : ℕ) (q h h' t t' : List ℕ) (total : ℕ) (r : List ℕ) : Type 0 where
  pub ts : List (Option (List ℕ))
  pub ds : List Depot
  pub between : List ℕ
  pub trainees : lines (trainee_line m) size n 1 0 [] q ≡ got ts between
  pub depots : lines (depot_line n) depot_size m 1 0 [] between ≡ got ds r
  pub heads : h' ≡ sets h 0 (head_cells (placement_of ts ds []))
  pub total_is : total ≡ length (entry_cells (placement_of ts ds []))
  pub stored : t' ≡ sets t 0 (entry_cells (placement_of ts ds []))

-- a text is refused so
abbrev pub refused_for : Misread → Read
refused_for x = refused (fault_number x.fault) x.line x.field

-- a refusal is that of each text with this first line
abbrev pub SidesRead : ℕ → ℕ → List ℕ → List ℕ → List ℕ → List ℕ → List ℕ → List ℕ → Result ℕ Misread → Type 0
SidesRead n m q h h' t t' r (Ok total) = Both n m q h h' t t' total r
SidesRead n m q h h' t t' r (Err x) = (s : List ℕ) → length s ≤ 65536 → head_fields s ≡ got (head_of 1 n m) q → read_text s ≡ refused_for x

-- what was read of the whole text: its placement's cells stand in the fronts, as many as are used
pub record All (s h h' t t' o o' : List ℕ) (used : Used) : Type 0 where
  pub it : Placement
  pub goes : read_text s ≡ taken it
  pub heads : h' ≡ sets h 0 (head_cells it)
  pub entries : t' ≡ sets t 0 (entry_cells it)
  pub orders : o' ≡ sets o 0 (order_cells it)
  pub heads_used : used.heads ≡ length (head_cells it)
  pub entries_used : used.entries ≡ length (entry_cells it)
  pub orders_used : used.orders ≡ length (order_cells it)

abbrev pub WholeRead : List ℕ → List ℕ → List ℕ → List ℕ → List ℕ → List ℕ → List ℕ → Result Used Misread → Type 0
WholeRead s h h' t t' o o' (Ok used) = All s h h' t t' o o' used
WholeRead s h h' t t' o o' (Err x) = read_text s ≡ refused_for x
