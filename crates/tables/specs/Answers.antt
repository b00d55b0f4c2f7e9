-- What is answered of tables: their sizes (number 1), the first line where something was not received (number 7), and a trainee's list.
-- Assumes nothing.
use Rattle.std.specs.Prelude.{Option as Answer, Some, None, ◌≡◌, ◌<◌, ℕ, zero, suc, Bool, true, false, List, [], ◌∷◌, length, leb, Result, Ok, Err}
use Rattle.std.proofs.Math.Option.{Option, none, some}
use Rattle.meaning.specs.Numbers.{◌&◌}
use Rattle.meaning.specs.Placement.{Placement}
use Rattle.meaning.specs.Full.{Full, Received, whole, lacking, full}
use Rattle.meaning.specs.Answers.{SHORT_PART, NOT_READ, refusal}
use Rattle.meaning.specs.declared.Receipt.{Receipt}
use Rattle.meaning.specs.declared.Refusal.{Refusal}
use Rattle.tables.specs.Decode.{Sides, placement_with, placement_of}

-- the tables of a value are those that were lent
abbrev pub Same : List ℕ → List ℕ → List ℕ → List ℕ → List ℕ → List ℕ → Type 0
Same h' e' o' h e o = (h' ≡ h) × (e' ≡ e) × (o' ≡ o)

-- ---- number 1

-- each lent table has its full size
unfoldable pub sized : List ℕ → List ℕ → List ℕ → Bool
sized h e o = leb 707 (length h) & leb 8192 (length e) & leb 3073 (length o)

-- ---- number 7

-- what is received does not depend on the orders
unfoldable pub full_sides : Sides → Received Full
full_sides b = full (placement_with b [])

-- the first line where something is lacking; 0 where all was received
unfoldable pub lacking_line : {A : Type 0} → Received A → ℕ
lacking_line (whole a) = 0
lacking_line (lacking l) = l

-- the answer is that line, or there is none where it is 0
abbrev pub LineOf : {A : Type 0} → Received A → Answer ℕ → Type 0
LineOf r (Some l) = (lacking_line r ≡ l) × (0 < l)
LineOf r None = lacking_line r ≡ 0

-- ---- a trainee's list

-- what tables say of it: a number given back, no such trainee, not received, or the list
pub data Said : Type 0 where
  refused : ℕ → Said
  out_of_range not_received : Said
  received : List ℕ → Said

unfoldable pub said_of : Option (List ℕ) → Said
said_of none = not_received
said_of (some l) = received l

-- of the k-th list, counted from 0
unfoldable pub said_among : List (Option (List ℕ)) → ℕ → Said
said_among [] k = out_of_range
said_among (l ∷ ls) zero = said_of l
said_among (l ∷ ls) (suc k) = said_among ls k

-- trainees are numbered from 1
unfoldable pub said_by : List (Option (List ℕ)) → ℕ → Said
said_by ls zero = out_of_range
said_by ls (suc k) = said_among ls k

unfoldable pub said_if_held : Option Placement → ℕ → Said
said_if_held none i = refused NOT_READ
said_if_held (some p) i = said_by p.trainees i

-- number 1 is tried first, then number 8
unfoldable pub said : List ℕ → List ℕ → List ℕ → ℕ → Said
said h e o i = elim (sized h e o) [ true ↦ said_if_held (placement_of h e o) i | false ↦ refused SHORT_PART ]

-- the part of the entries that is handed back: the list, or the empty part
unfoldable pub handed_back : Said → List ℕ
handed_back (received l) = l
handed_back not_received = []
handed_back out_of_range = []
handed_back (refused r) = []

-- what tells an empty list from none
unfoldable pub receipt_of : Said → Result Receipt Refusal
receipt_of (received l) = Ok Receipt.Received
receipt_of not_received = Ok Receipt.NotReceived
receipt_of out_of_range = Ok Receipt.OutOfRange
receipt_of (refused r) = Err (refusal r 0)

abbrev pub trainee_list : List ℕ → List ℕ → List ℕ → ℕ → List ℕ
trainee_list h e o i = handed_back (said h e o i)

abbrev pub trainee_receipt : List ℕ → List ℕ → List ℕ → ℕ → Result Receipt Refusal
trainee_receipt h e o i = receipt_of (said h e o i)
