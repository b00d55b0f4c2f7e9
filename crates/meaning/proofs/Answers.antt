-- Each case has numbers of its own: the value can be read back from its numbers, so two values with the same numbers are one.
-- Assumes nothing.
use Prim.Native.Nat.{ℕ, zero, suc, ◌≤◌, ◌<◌}
use native.Mathlib.Omega.{arith}
use mathlib.Core.Path.{◌≡◌, refl, sym, ap, ap₂, ◌∙◌}
use mathlib.Core.List.{List}
use lib.ListN.{get_or}
use Rattle.meaning.specs.Answers.{fault_number, fault_of, refusal, reason_of, reason_number, reason_witness, strike_numbers, ending_numbers, ruling_numbers, refusal_numbers, reading_numbers, writing_numbers, receipt_numbers, tested_numbers, ruled_numbers, checked_numbers}
use Rattle.meaning.specs.declared.Reason.{Reason}
use Rattle.meaning.specs.declared.Strike.{Strike}
use Rattle.meaning.specs.declared.Ending.{Ending}
use Rattle.meaning.specs.declared.Ruling.{Ruling}
use Rattle.meaning.specs.declared.Receipt.{Receipt}
use Rattle.meaning.specs.declared.Tested.{Tested}
use Rattle.meaning.specs.declared.Rejection.{Rejection}
use Rattle.meaning.specs.declared.Fault.{Fault}
use Rattle.meaning.specs.declared.Refusal.{Refusal}
use Rattle.std.specs.Prelude.{Result, Ok, Err}

module _ {A : Type 0} (numbers : A → List ℕ) (back : ℕ → ℕ → ℕ → A)
    (again : (a : A) → back (get_or (numbers a) 0 0) (get_or (numbers a) 1 0) (get_or (numbers a) 2 0) ≡ a) where
  own : (a b : A) → numbers a ≡ numbers b → a ≡ b
  own a b e = sym (again a) ∙ ap (λ l. back (get_or l 0 0) (get_or l 1 0) (get_or l 2 0)) e ∙ again b

-- ---- reasons and strikes

pub reason-again : (r : Reason) → reason_of (reason_number r) (reason_witness r) ≡ r
unfolding reason_of reason_number reason_witness
reason-again Reason.Barred = refl
reason-again (Reason.HeldElsewhere j) = refl
reason-again Reason.PostsGone = refl
reason-again (Reason.Passed k) = refl

pub reason-low : (n w : ℕ) → n < 2 → reason_of n w ≡ Reason.Barred
unfolding reason_of
reason-low zero w h = refl
reason-low (suc zero) w h = refl
reason-low (suc (suc n)) w h = absurd (omega arith)

pub reason-high : (n w : ℕ) → 4 ≤ n → reason_of n w ≡ Reason.Passed w
unfolding reason_of
reason-high zero w h = absurd (omega arith)
reason-high (suc zero) w h = absurd (omega arith)
reason-high (suc (suc zero)) w h = absurd (omega arith)
reason-high (suc (suc (suc zero))) w h = absurd (omega arith)
reason-high (suc (suc (suc (suc n)))) w h = refl

pub reason-own : (r s : Reason) → reason_number r ≡ reason_number s → reason_witness r ≡ reason_witness s → r ≡ s
reason-own r s n w = sym (reason-again r) ∙ ap₂ reason_of n w ∙ reason-again s

pub strike-own : (x y : Strike) → strike_numbers x ≡ strike_numbers y → x ≡ y
unfolding strike_numbers
strike-own x y e =
    let r : x.reason ≡ y.reason = reason-own x.reason y.reason (cc) (cc) in
    let i : x.trainee ≡ y.trainee = cc in
    let j : x.depot ≡ y.depot = cc in
    λ t. record { trainee = i t; depot = j t; reason = r t }

-- ---- endings and rulings

ending_back : ℕ → ℕ → ℕ → Ending
ending_back zero i j = Ending.Placed
ending_back (suc zero) i j = Ending.NoneHeld i j
ending_back (suc (suc k)) i j = Ending.NoneRoom i j

pub ending-own : (a b : Ending) → ending_numbers a ≡ ending_numbers b → a ≡ b
unfolding ending_numbers ending_back
ending-own = own ending_numbers ending_back again
  where
    again : (a : Ending) → ending_back (get_or (ending_numbers a) 0 0) (get_or (ending_numbers a) 1 0) (get_or (ending_numbers a) 2 0) ≡ a
    again Ending.Placed = refl
    again (Ending.NoneHeld i j) = refl
    again (Ending.NoneRoom i j) = refl

pub ruling-own : (a b : Ruling) → ruling_numbers a ≡ ruling_numbers b → a ≡ b
unfolding ruling_numbers
ruling-own a b e =
    let d : a.ending ≡ b.ending = ending-own a.ending b.ending (cc) in
    let n : a.trainees ≡ b.trainees = cc in
    let s : a.strikes ≡ b.strikes = cc in
    λ t. record { trainees = n t; strikes = s t; ending = d t }

-- ---- numbers given back and refusals

pub fault-again : (f : Fault) → fault_of (fault_number f) ≡ f
fault-again Fault.ShortPart = refl
fault-again Fault.LongText = refl
fault-again Fault.WrongForm = refl
fault-again Fault.OutOfRange = refl
fault-again Fault.NamedTwice = refl
fault-again Fault.TooMany = refl
fault-again Fault.NotReceived = refl
fault-again Fault.NotRead = refl

-- the numbers 1 to 8 are the faults'
pub number-again : (k : ℕ) → 1 ≤ k → k ≤ 8 → fault_number (fault_of k) ≡ k
number-again zero lo hi = absurd (omega arith)
number-again (suc zero) lo hi = refl
number-again (suc (suc zero)) lo hi = refl
number-again (suc (suc (suc zero))) lo hi = refl
number-again (suc (suc (suc (suc zero)))) lo hi = refl
number-again (suc (suc (suc (suc (suc zero))))) lo hi = refl
number-again (suc (suc (suc (suc (suc (suc zero)))))) lo hi = refl
number-again (suc (suc (suc (suc (suc (suc (suc zero))))))) lo hi = refl
number-again (suc (suc (suc (suc (suc (suc (suc (suc zero)))))))) lo hi = refl
number-again (suc (suc (suc (suc (suc (suc (suc (suc (suc k))))))))) lo hi = absurd (omega arith)

-- and from 3 on no fault's number is below 3
pub number-high : (k : ℕ) → 3 ≤ k → 3 ≤ fault_number (fault_of k)
number-high zero h = absurd (omega arith)
number-high (suc zero) h = absurd (omega arith)
number-high (suc (suc zero)) h = absurd (omega arith)
number-high (suc (suc (suc zero))) h = omega arith
number-high (suc (suc (suc (suc zero)))) h = omega arith
number-high (suc (suc (suc (suc (suc zero))))) h = omega arith
number-high (suc (suc (suc (suc (suc (suc zero)))))) h = omega arith
number-high (suc (suc (suc (suc (suc (suc (suc zero))))))) h = omega arith
number-high (suc (suc (suc (suc (suc (suc (suc (suc k)))))))) h = omega arith

pub refusal-again : (r : Refusal) → refusal (fault_number r.fault) r.line ≡ r
refusal-again r = ap (λ f. record { fault = f; line = r.line }) (fault-again r.fault)

-- ---- answers

reading_back : ℕ → ℕ → ℕ → Result (Unit {0}) Refusal
reading_back zero number line = Ok tt
reading_back (suc k) number line = Err (refusal number line)

pub reading-own : (a b : Result (Unit {0}) Refusal) → reading_numbers a ≡ reading_numbers b → a ≡ b
unfolding reading_numbers reading_back refusal_numbers
reading-own = own reading_numbers reading_back again
  where
    again : (a : Result (Unit {0}) Refusal) → reading_back (get_or (reading_numbers a) 0 0) (get_or (reading_numbers a) 1 0) (get_or (reading_numbers a) 2 0) ≡ a
    again (Ok _) = refl
    again (Err r) = ap Err (refusal-again r)

writing_back : ℕ → ℕ → ℕ → Result ℕ Refusal
writing_back zero k line = Ok k
writing_back (suc _) number line = Err (refusal number line)

pub writing-own : (a b : Result ℕ Refusal) → writing_numbers a ≡ writing_numbers b → a ≡ b
unfolding writing_numbers writing_back refusal_numbers
writing-own = own writing_numbers writing_back again
  where
    again : (a : Result ℕ Refusal) → writing_back (get_or (writing_numbers a) 0 0) (get_or (writing_numbers a) 1 0) (get_or (writing_numbers a) 2 0) ≡ a
    again (Ok k) = refl
    again (Err r) = ap Err (refusal-again r)

receipt_back : ℕ → ℕ → ℕ → Result Receipt Refusal
receipt_back zero number line = Ok Receipt.Received
receipt_back (suc zero) number line = Ok Receipt.NotReceived
receipt_back (suc (suc zero)) number line = Ok Receipt.OutOfRange
receipt_back (suc (suc (suc k))) number line = Err (refusal number line)

pub receipt-own : (a b : Result Receipt Refusal) → receipt_numbers a ≡ receipt_numbers b → a ≡ b
unfolding receipt_numbers receipt_back refusal_numbers
receipt-own = own receipt_numbers receipt_back again
  where
    again : (a : Result Receipt Refusal) → receipt_back (get_or (receipt_numbers a) 0 0) (get_or (receipt_numbers a) 1 0) (get_or (receipt_numbers a) 2 0) ≡ a
    again (Ok Receipt.Received) = refl
    again (Ok Receipt.NotReceived) = refl
    again (Ok Receipt.OutOfRange) = refl
    again (Err r) = ap Err (refusal-again r)

tested_back : ℕ → ℕ → ℕ → Result Tested Refusal
tested_back zero i j = Ok Tested.Stable
tested_back (suc zero) i j = Ok (Tested.NotMutual i)
tested_back (suc (suc zero)) j _ = Ok (Tested.OverPosts j)
tested_back (suc (suc (suc zero))) i j = Ok (Tested.Blocking i j)
tested_back (suc (suc (suc (suc k)))) number line = Err (refusal number line)

pub tested-own : (a b : Result Tested Refusal) → tested_numbers a ≡ tested_numbers b → a ≡ b
unfolding tested_numbers tested_back refusal_numbers
tested-own = own tested_numbers tested_back again
  where
    again : (a : Result Tested Refusal) → tested_back (get_or (tested_numbers a) 0 0) (get_or (tested_numbers a) 1 0) (get_or (tested_numbers a) 2 0) ≡ a
    again (Ok Tested.Stable) = refl
    again (Ok (Tested.NotMutual i)) = refl
    again (Ok (Tested.OverPosts j)) = refl
    again (Ok (Tested.Blocking i j)) = refl
    again (Err r) = ap Err (refusal-again r)

pub refusal-own : (a b : Refusal) → refusal_numbers a ≡ refusal_numbers b → a ≡ b
unfolding refusal_numbers
refusal-own a b e =
    let n : fault_number a.fault ≡ fault_number b.fault = cc in
    let f : a.fault ≡ b.fault = sym (fault-again a.fault) ∙ ap fault_of n ∙ fault-again b.fault in
    let l : a.line ≡ b.line = cc in
    λ t. record { fault = f t; line = l t }

pub ruled-own : (a b : Result Ruling Refusal) → ruled_numbers a ≡ ruled_numbers b → a ≡ b
unfolding ruled_numbers
ruled-own (Ok a) (Ok b) e =
    let d : ruling_numbers a ≡ ruling_numbers b = cc in
    ap Ok (ruling-own a b d)
ruled-own (Ok a) (Err b) e = cc
ruled-own (Err a) (Ok b) e = cc
ruled-own (Err a) (Err b) e =
    let d : refusal_numbers a ≡ refusal_numbers b = cc in
    ap Err (refusal-own a b d)

checked_back : ℕ → ℕ → ℕ → Result (Unit {0}) Rejection
checked_back zero k line = Ok tt
checked_back (suc zero) k line = Err (Rejection.NotAllowed k)
checked_back (suc (suc _)) number line = Err (Rejection.Refused (refusal number line))

pub checked-own : (a b : Result (Unit {0}) Rejection) → checked_numbers a ≡ checked_numbers b → a ≡ b
unfolding checked_numbers checked_back refusal_numbers
checked-own = own checked_numbers checked_back again
  where
    again : (a : Result (Unit {0}) Rejection) → checked_back (get_or (checked_numbers a) 0 0) (get_or (checked_numbers a) 1 0) (get_or (checked_numbers a) 2 0) ≡ a
    again (Ok _) = refl
    again (Err (Rejection.NotAllowed k)) = refl
    again (Err (Rejection.Refused r)) = ap (λ x. Err (Rejection.Refused x)) (refusal-again r)
