-- Each legal ruling's text fits in 65,536 bytes.
-- A number below 1000 takes at most 4 bytes with its tab, one below 100 at most 3, a digit 2. So a strike takes at most 15 bytes, and a cell of the
-- table 9: 15 * 4096 + 9 * 256, 18 for the first line and 4 for the last is 63,766.
-- Assumes nothing.
use Prim.Native.Nat.{ℕ, suc, ◌+◌, ◌*◌, ◌≤◌, ◌<◌}
use native.Mathlib.Nat.{mul-suc}
use mathlib.Core.Path.{◌≡◌}
use mathlib.Core.List.{List}
use native.Mathlib.Omega.{arith}
use lib.ListN.{length, length-append}
use Rattle.meaning.specs.Numbers.{In}
use Rattle.meaning.specs.Lists.{Each, each_none, each_more}
use Rattle.meaning.specs.Answers.{reason_number, reason_witness, strike_numbers}
use Rattle.meaning.specs.Endings.{Outcome}
use Rattle.meaning.specs.Solver.{WholeRuling}
use Rattle.meaning.specs.declared.Reason.{Reason}
use Rattle.meaning.specs.declared.Strike.{Strike}
use Rattle.fields.specs.Writer.{write_number, write_lines, write_numbers, write_line}
use Rattle.fields.proofs.Digits.{ten_to, digits-at-most}
use Rattle.rulings.specs.Legal.{DEPOTS, LegalReason, legal_barred, legal_elsewhere, legal_gone, legal_passed, LegalStrike, LegalOutcome, legal_table, legal_held, legal_room, LegalRuling}
use Rattle.ruling_text.specs.Writer.{write_strike, write_cell, write_none, write_outcome, write_head, ruling_text}

-- ---- a number with its tab, by how many digits it has

number_short : (k v : ℕ) → v < ten_to (suc k) → length (write_number v) ≤ suc (suc k)
unfolding write_number
number_short k v h = omega (arith, digits-at-most k v h)

pub one-digit-short : (v : ℕ) → v < 10 → length (write_number v) ≤ 2
unfolding ten_to
one-digit-short v h = number_short 0 v h

pub two-digits-short : (v : ℕ) → v < 100 → length (write_number v) ≤ 3
unfolding ten_to
two-digits-short v h = number_short 1 v h

pub three-digits-short : (v : ℕ) → v < 1000 → length (write_number v) ≤ 4
unfolding ten_to
three-digits-short v h = number_short 2 v h

pub four-digits-short : (v : ℕ) → v < 10000 → length (write_number v) ≤ 5
unfolding ten_to
four-digits-short v h = number_short 3 v h

-- ---- lines

-- lines of at most b bytes each
lines-short : {A : Type 0} (f : ℕ → A → List ℕ) (P : A → Type 0) (top b : ℕ) → ((i : ℕ) (a : A) → i ≤ top → P a → length (f i a) ≤ b)
    → (i : ℕ) {xs : List A} → i + length xs ≤ suc top → Each P xs → length (write_lines f i xs) ≤ b * length xs
unfolding write_lines
lines-short f P top b h i g each_none = omega arith
lines-short f P top b h i g (each_more {x = x} {xs = xs} p ps) =
    let more : b * suc (length xs) ≡ b * length xs + b = mul-suc b (length xs) in
    simp length-append (omega (arith, h i x (omega arith) p, lines-short f P top b h (i + 1) (omega arith) ps, more))

reason-short : {n : ℕ} {r : Reason} → n ≤ 256 → LegalReason n r → length (write_number (reason_number r)) + length (write_number (reason_witness r)) ≤ 6
unfolding reason_number reason_witness
reason-short hn legal_barred = omega (arith, one-digit-short 1 (omega arith), one-digit-short 0 (omega arith))
reason-short hn (legal_elsewhere {j = j} h) = omega (arith, one-digit-short 2 (omega arith), two-digits-short j (omega (arith, h.high)))
reason-short hn legal_gone = omega (arith, one-digit-short 3 (omega arith), one-digit-short 0 (omega arith))
reason-short hn (legal_passed {k = k} h) = omega (arith, one-digit-short 4 (omega arith), three-digits-short k (omega (arith, h.high)))

strike-short : (n k : ℕ) (x : Strike) → n ≤ 256 → LegalStrike n x → length (write_strike k x) ≤ 15
unfolding write_strike write_line write_numbers strike_numbers
strike-short n k x hn h =
    simp length-append
    (omega (arith, three-digits-short x.trainee (omega (arith, h.trainee.high)), two-digits-short x.depot (omega (arith, h.depot.high)), reason-short hn h.reason))

cell-short : (i j : ℕ) → i ≤ 256 → j ≤ DEPOTS → length (write_cell i j) ≤ 9
unfolding write_cell write_line write_numbers
cell-short i j hi hj = simp length-append (omega (arith, three-digits-short i (omega arith), two-digits-short j (omega arith)))

none-short : (n k i j : ℕ) → n ≤ 256 → k < 10 → In n i → In DEPOTS j → length (write_none k i j) ≤ 11
unfolding write_none write_line write_numbers
none-short n k i j hn hk hi hj =
    simp length-append
    (omega (arith, one-digit-short k hk, three-digits-short i (omega (arith, hi.high)), two-digits-short j (omega (arith, hj.high))))

outcome-short : {n : ℕ} {o : Outcome} → n ≤ 256 → LegalOutcome n o → length (write_outcome o) ≤ 2304
unfolding write_outcome
outcome-short {n} hn (legal_table {l = l} e h) =
    omega (arith, lines-short write_cell (λ j. j ≤ DEPOTS) 256 9 cell-short 1 {xs = l} (omega arith) h)
outcome-short {n} hn (legal_held {i = i} {j = j} hi hj) = omega (arith, none-short n 1 i j hn (omega arith) hi hj)
outcome-short {n} hn (legal_room {i = i} {j = j} hi hj) = omega (arith, none-short n 2 i j hn (omega arith) hi hj)

pub ruling-short : (r : WholeRuling) → LegalRuling r → length (ruling_text r) ≤ 65536
unfolding ruling_text write_head write_line write_numbers
ruling-short r g =
    let n : ℕ = r.trainees in
    simp length-append
    (omega (
      arith,
      one-digit-short 1 (omega arith),
      three-digits-short n (omega (arith, g.n)),
      four-digits-short (length r.strikes) (omega (arith, g.few_strikes)),
      lines-short write_strike (LegalStrike n) 4096 15 (λ k x h. strike-short n k x g.n) 1 (omega (arith, g.few_strikes)) g.strikes,
      outcome-short g.n g.outcome,
      g.few_strikes,
    ))
