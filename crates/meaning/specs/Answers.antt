-- The paper's numbers and values for each case of a declared type (document 01, "The two texts", "Strikes and endings", "Numbers given back").
-- Assumes nothing.
use Rattle.std.specs.Prelude.{ℕ, zero, suc, List, [], ◌∷◌, get_or, Result, Ok, Err}
use Rattle.meaning.specs.declared.Reason.{Reason}
use Rattle.meaning.specs.declared.Strike.{Strike}
use Rattle.meaning.specs.declared.Ending.{Ending}
use Rattle.meaning.specs.declared.Ruling.{Ruling}
use Rattle.meaning.specs.declared.Fault.{Fault}
use Rattle.meaning.specs.declared.Refusal.{Refusal}
use Rattle.meaning.specs.declared.Receipt.{Receipt}
use Rattle.meaning.specs.declared.Tested.{Tested}
use Rattle.meaning.specs.declared.Rejection.{Rejection}

-- ---- the numbers given back

-- a lent part is shorter than the full size of its table
abbrev pub SHORT_PART : ℕ
SHORT_PART = 1

-- text longer than 65,536 bytes
abbrev pub LONG_TEXT : ℕ
LONG_TEXT = 2

-- wrong form
abbrev pub WRONG_FORM : ℕ
WRONG_FORM = 3

-- a number outside its range
abbrev pub OUT_OF_RANGE : ℕ
OUT_OF_RANGE = 4

-- a list names the same one twice
abbrev pub NAMED_TWICE : ℕ
NAMED_TWICE = 5

-- a side's entries past 4,096, or a 1,025th order
abbrev pub TOO_MANY : ℕ
TOO_MANY = 6

-- a list or posts not received
abbrev pub NOT_RECEIVED : ℕ
NOT_RECEIVED = 7

-- tables that no reader could have filled, or another n
abbrev pub NOT_READ : ℕ
NOT_READ = 8

abbrev pub fault_number : Fault → ℕ
fault_number Fault.ShortPart = SHORT_PART
fault_number Fault.LongText = LONG_TEXT
fault_number Fault.WrongForm = WRONG_FORM
fault_number Fault.OutOfRange = OUT_OF_RANGE
fault_number Fault.NamedTwice = NAMED_TWICE
fault_number Fault.TooMany = TOO_MANY
fault_number Fault.NotReceived = NOT_RECEIVED
fault_number Fault.NotRead = NOT_READ

-- the fault of a number; only 1 to 8 are given back
abbrev pub fault_of : ℕ → Fault
fault_of zero = Fault.NotRead
fault_of (suc zero) = Fault.ShortPart
fault_of (suc (suc zero)) = Fault.LongText
fault_of (suc (suc (suc zero))) = Fault.WrongForm
fault_of (suc (suc (suc (suc zero)))) = Fault.OutOfRange
fault_of (suc (suc (suc (suc (suc zero))))) = Fault.NamedTwice
fault_of (suc (suc (suc (suc (suc (suc zero)))))) = Fault.TooMany
fault_of (suc (suc (suc (suc (suc (suc (suc zero))))))) = Fault.NotReceived
fault_of (suc (suc (suc (suc (suc (suc (suc (suc k)))))))) = Fault.NotRead

abbrev pub refusal : ℕ → ℕ → Refusal
refusal number line = record { fault = fault_of number; line = line }

-- ---- reasons: 1 to 4, and the witness, 0 where there is none

unfoldable pub reason_number : Reason → ℕ
reason_number Reason.Barred = 1
reason_number (Reason.HeldElsewhere j) = 2
reason_number Reason.PostsGone = 3
reason_number (Reason.Passed k) = 4

unfoldable pub reason_witness : Reason → ℕ
reason_witness Reason.Barred = 0
reason_witness (Reason.HeldElsewhere j) = j
reason_witness Reason.PostsGone = 0
reason_witness (Reason.Passed k) = k

-- the reason of a number, 1 to 4, and a witness; no other number is a strike's
unfoldable pub reason_of : ℕ → ℕ → Reason
reason_of zero w = Reason.Barred
reason_of (suc zero) w = Reason.Barred
reason_of (suc (suc zero)) w = Reason.HeldElsewhere w
reason_of (suc (suc (suc zero))) w = Reason.PostsGone
reason_of (suc (suc (suc (suc n)))) w = Reason.Passed w

-- trainee, depot, reason, witness
unfoldable pub strike_numbers : Strike → List ℕ
strike_numbers x = x.trainee ∷ x.depot ∷ reason_number x.reason ∷ reason_witness x.reason ∷ []

-- the strike of these numbers
unfoldable pub strike_of : List ℕ → Strike
strike_of cells = record {
  trainee = get_or cells 0 0;
  depot = get_or cells 1 0;
  reason = reason_of (get_or cells 2 0) (get_or cells 3 0);
}

-- ---- endings: the kind, 0 for placed, and the named pair

unfoldable pub ending_numbers : Ending → List ℕ
ending_numbers Ending.Placed = 0 ∷ []
ending_numbers (Ending.NoneHeld i j) = 1 ∷ i ∷ j ∷ []
ending_numbers (Ending.NoneRoom i j) = 2 ∷ i ∷ j ∷ []

-- n, the number of strikes, and the ending
unfoldable pub ruling_numbers : Ruling → List ℕ
ruling_numbers r = r.trainees ∷ r.strikes ∷ ending_numbers r.ending

-- ---- answers: a number for each case (the first is 0, refused is the last), then its values

unfoldable pub refusal_numbers : Refusal → List ℕ
refusal_numbers r = fault_number r.fault ∷ r.line ∷ []

unfoldable pub reading_numbers : Result (Unit {0}) Refusal → List ℕ
reading_numbers (Ok _) = 0 ∷ []
reading_numbers (Err r) = 1 ∷ refusal_numbers r

unfoldable pub writing_numbers : Result ℕ Refusal → List ℕ
writing_numbers (Ok k) = 0 ∷ k ∷ []
writing_numbers (Err r) = 1 ∷ refusal_numbers r

unfoldable pub receipt_numbers : Result Receipt Refusal → List ℕ
receipt_numbers (Ok Receipt.Received) = 0 ∷ []
receipt_numbers (Ok Receipt.NotReceived) = 1 ∷ []
receipt_numbers (Ok Receipt.OutOfRange) = 2 ∷ []
receipt_numbers (Err r) = 3 ∷ refusal_numbers r

unfoldable pub tested_numbers : Result Tested Refusal → List ℕ
tested_numbers (Ok Tested.Stable) = 0 ∷ []
tested_numbers (Ok (Tested.NotMutual i)) = 1 ∷ i ∷ []
tested_numbers (Ok (Tested.OverPosts j)) = 2 ∷ j ∷ []
tested_numbers (Ok (Tested.Blocking i j)) = 3 ∷ i ∷ j ∷ []
tested_numbers (Err r) = 4 ∷ refusal_numbers r

unfoldable pub ruled_numbers : Result Ruling Refusal → List ℕ
ruled_numbers (Ok r) = 0 ∷ ruling_numbers r
ruled_numbers (Err r) = 1 ∷ refusal_numbers r

unfoldable pub checked_numbers : Result (Unit {0}) Rejection → List ℕ
checked_numbers (Ok _) = 0 ∷ []
checked_numbers (Err (Rejection.NotAllowed k)) = 1 ∷ k ∷ []
checked_numbers (Err (Rejection.Refused r)) = 2 ∷ refusal_numbers r
