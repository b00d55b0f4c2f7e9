-- What the leaves' answers say, by cases on the answer: a leaf that finds q at the front of a text leaves r.
-- Assumes nothing.
use Rattle.std.specs.Prelude.{ℕ, ◌+◌, ◌≡◌, List, ◌∷◌, length, Option, Some, None, Result, Ok, Err}
use Rattle.std.specs.Borrow.{Bor}
use Rattle.std.proofs.Math.Option as maybe
use Rattle.std.proofs.lemmas.List.Edits.{sets}
use Rattle.meaning.specs.Answers.{fault_number}
use Rattle.meaning.specs.declared.Fault.{Fault}
use Rattle.fields.specs.Bytes.{word_of, rest_of}
use Rattle.fields.specs.Reader.{Step, got, refusal}
use Rattle.fields.specs.declared.Wrong.{Wrong}
use Rattle.fields.specs.declared.Misread.{Misread}

abbrev pub num_of : maybe.Option ℕ → Option ℕ
num_of (maybe.some v) = Some v
num_of maybe.none = None

-- ---- reading

-- the step goes on with the value of the answer, and r is left; or it is refused, at a field of its line
abbrev pub StepRead : {A : Type 0} → Step A → List ℕ → Result A Wrong → Type 0
StepRead step r (Ok a) = step ≡ got a r
StepRead step r (Err x) = step ≡ refusal (fault_number x.fault) 0 x.field

-- the same of a reader that counts lines
abbrev pub LinesRead : {A : Type 0} → Step A → List ℕ → Result A Misread → Type 0
LinesRead step r (Ok a) = step ≡ got a r
LinesRead step r (Err x) = step ≡ refusal (fault_number x.fault) x.line x.field

abbrev pub wrong_on : Wrong → ℕ → Misread
wrong_on x l = record { fault = x.fault; line = l; field = x.field }

-- the same of a word, which the answer lends
abbrev pub WordRead : Step (List ℕ) → List ℕ → Result (Bor (List ℕ)) Wrong → Type 0
WordRead step r (Ok w) = step ≡ got w.now r
WordRead step r (Err x) = step ≡ refusal (fault_number x.fault) 0 x.field

-- the bytes w before the next tab or line end
pub record FirstRead (q r w : List ℕ) : Type 0 where
  pub word : w ≡ word_of q
  pub rest : r ≡ rest_of q

-- the byte b stands at the front; another one is of wrong form in the field k, and leaves the text as it was
pub record NoByte (q : List ℕ) (b k : ℕ) (r : List ℕ) (x : Wrong) : Type 0 where
  pub fault : x.fault ≡ Fault.WrongForm
  pub field : x.field ≡ k
  pub kept : r ≡ q
  pub other : (s : List ℕ) → q ≡ b ∷ s → ⊥

abbrev pub ByteRead : List ℕ → ℕ → ℕ → List ℕ → Result (Unit {0}) Wrong → Type 0
ByteRead q b k r (Ok _) = q ≡ b ∷ r
ByteRead q b k r (Err x) = NoByte q b k r x

-- ---- writing

-- the bytes stand in the cells from `at` on, no other cell has changed, and r is the position after them
pub record Put (out out' : List ℕ) (at : ℕ) (bytes : List ℕ) (r : ℕ) : Type 0 where
  pub cells : out' ≡ sets out at bytes
  pub next : r ≡ at + length bytes
