-- Cells whose front is that of a ruling say that ruling; so do those that a text was read into.
-- Assumes nothing.
use Prim.Native.Nat.{ℕ, ◌+◌, ◌*◌, ◌≤◌}
use mathlib.Core.Path.{◌≡◌, refl, sym, ap, ap₂, ◌∙◌, subst}
use mathlib.Core.List.{List, [], ◌∷◌, ◌++◌, append_assoc}
use native.Mathlib.Omega.{arith}
use lib.ListN.{length, get_or, take, drop, take-append-drop, length-append}
use lib.Seq.{length-take-le, sets, sets-eq, get_or-append_seam, get_or-append-add, take-append_seam}
use Rattle.meaning.specs.Answers.{reason_number, reason_witness, strike_numbers}
use Rattle.meaning.specs.Endings.{Outcome, placed_by}
use Rattle.meaning.specs.Solver.{WholeRuling, ending_of, head_of}
use Rattle.meaning.specs.declared.Strike.{Strike}
use Rattle.rulings.specs.Legal.{LegalOutcome, legal_table, legal_held, legal_room, LegalRuling}
use Rattle.ruling_text.specs.Reader.{reason_of, refused, read_ruling}
use Rattle.ruling_text.specs.Cells.{joined, strike_cells, table_cells, strike_at, strikes_from, strikes_in, outcome_in, ruling_in, Held}
use Rattle.ruling_text.specs.Code.{Laid, TextTaken, ending_cells, answered, answered_by}
use Rattle.std.specs.Prelude.{Ok, Err}
use Rattle.meaning.specs.Answers.{fault_number}
use Rattle.fields.specs.declared.Misread.{Misread}
use Rattle.meaning.specs.declared.Ruling.{Ruling}
use Rattle.ruling_text.proofs.Strikes.{reason-again}
use Rattle.ruling_text.proofs.Quads.{quads-length}
use Rattle.ruling_text.proofs.Round.{ruling-back}

-- ---- strikes

-- the strike whose numbers stand behind the front
strike-says : (front rest : List ℕ) (x : Strike) → strike_at (front ++ (strike_numbers x ++ rest)) (length front) ≡ x
unfolding strike_at strike_numbers
strike-says front rest x =
    let cells : List ℕ = strike_numbers x ++ rest in
    let i : get_or (front ++ cells) (length front) 0 ≡ x.trainee = get_or-append_seam front x.trainee _ 0 in
    let j : get_or (front ++ cells) (length front + 1) 0 ≡ x.depot = get_or-append-add front cells 1 0 in
    let k : get_or (front ++ cells) (length front + 2) 0 ≡ reason_number x.reason = get_or-append-add front cells 2 0 in
    let w : get_or (front ++ cells) (length front + 3) 0 ≡ reason_witness x.reason = get_or-append-add front cells 3 0 in
    let r : reason_of (get_or (front ++ cells) (length front + 2) 0) (get_or (front ++ cells) (length front + 3) 0) ≡ x.reason =
    ap₂ reason_of k w ∙ reason-again x.reason in
    λ t. record { trainee = i t; depot = j t; reason = r t }

strikes-from : (front : List ℕ) (xs : List Strike) (rest : List ℕ) → strikes_from (front ++ (joined strike_numbers xs ++ rest)) (length xs) (length front) ≡ xs
unfolding strikes_from joined strike_numbers
strikes-from front [] rest = refl
strikes-from front (x ∷ xs) rest =
    let regroup : front ++ ((strike_numbers x ++ joined strike_numbers xs) ++ rest) ≡ front ++ (strike_numbers x ++ (joined strike_numbers xs ++ rest)) =
    ap (λ z. front ++ z) (append_assoc (strike_numbers x) (joined strike_numbers xs) rest) in
    let along : (front ++ strike_numbers x) ++ (joined strike_numbers xs ++ rest) ≡ front ++ (strike_numbers x ++ (joined strike_numbers xs ++ rest)) =
    append_assoc front (strike_numbers x) (joined strike_numbers xs ++ rest) in
    ap (λ z. strike_at z (length front) ∷ strikes_from z (length xs) (length front + 4)) regroup
    ∙ ap₂ ◌∷◌ (strike-says front (joined strike_numbers xs ++ rest) x)
    (ap₂ (λ z p. strikes_from z (length xs) p) (sym along) (sym (length-append front (strike_numbers x)))
    ∙ strikes-from (front ++ strike_numbers x) xs rest)

pub strikes-say : (cells : List ℕ) (xs : List Strike) → take (4 * length xs) cells ≡ strike_cells xs → strikes_in cells (length xs) ≡ xs
unfolding strikes_in strike_cells
strikes-say cells xs e =
    ap (λ z. strikes_from z (length xs) 0) (sym (take-append-drop (4 * length xs) cells) ∙ ap (λ z. z ++ drop (4 * length xs) cells) e)
    ∙ strikes-from [] xs (drop (4 * length xs) cells)

-- ---- the outcome

outcome-says : (table : List ℕ) {n : ℕ} {o : Outcome} → LegalOutcome n o → take (length (table_cells o)) table ≡ table_cells o → outcome_in n (ending_of o) table ≡ o
unfolding table_cells outcome_in ending_of
outcome-says table (legal_table g h) e = ap placed_by (ap (λ k. take k table) (sym g) ∙ e)
outcome-says table (legal_held h g) e = refl
outcome-says table (legal_room h g) e = refl

-- ---- a ruling

-- the front of the cells is the ruling's
module _ (r : WholeRuling) (table cells : List ℕ) (g : LegalRuling r)
    (in_cells : take (4 * length r.strikes) cells ≡ strike_cells r.strikes)
    (in_table : take (length (table_cells r.outcome)) table ≡ table_cells r.outcome) where
  pub cells_say : ruling_in r.trainees (length r.strikes) (ending_of r.outcome) table cells ≡ r
  unfolding ruling_in
  cells_say t =
      record { trainees = r.trainees; strikes = strikes-say cells r.strikes in_cells t; outcome = outcome-says table g.outcome in_table t }

  pub cells-hold : Held r.trainees (length r.strikes) (ending_of r.outcome) table cells
  cells-hold =
      record {
        legal = subst LegalRuling (sym cells_say) g;
        strikes = ap strike_cells (strikes-say cells r.strikes in_cells) ∙ sym in_cells;
      }

-- ---- what was read

front-set : (l vs : List ℕ) → length vs ≤ length l → take (length vs) (sets l 0 vs) ≡ vs
front-set l vs h =
    ap (take (length vs)) (sets-eq vs l 0 (omega arith) ∙ append_assoc [] vs (drop (0 + length vs) l))
    ∙ take-append_seam vs (drop (0 + length vs) l)

table_fits_lem : {n : ℕ} {o : Outcome} → n ≤ 256 → LegalOutcome n o → length (table_cells o) ≤ 256
unfolding table_cells
table_fits_lem h (legal_table e g) = omega arith
table_fits_lem h (legal_held i j) = omega arith
table_fits_lem h (legal_room i j) = omega arith

module _ (r : WholeRuling) {head : Ruling} {table table' cells cells' : List ℕ} (g : LegalRuling r) (L : Laid r head table table' cells cells')
    (long-table : 256 ≤ length table) (long-cells : 16384 ≤ length cells) where
  fronts : (take (4 * length r.strikes) cells' ≡ strike_cells r.strikes) × (take (length (table_cells r.outcome)) table' ≡ table_cells r.outcome)
  fronts =
      let n = quads-length r.strikes in
      let few = g.few_strikes in (
        ap₂ take (sym n) L.in_cells ∙ front-set cells (strike_cells r.strikes) (omega arith),
        ap (take (length (table_cells r.outcome))) L.in_table
            ∙ front-set table (table_cells r.outcome) (omega (arith, table_fits_lem g.n g.outcome)),
      )

  pub read-says : ruling_in head.trainees head.strikes head.ending table' cells' ≡ r
  unfolding head_of
  read-says =
      subst (λ h. ruling_in h.trainees h.strikes h.ending table' cells' ≡ r) L.said (cells_say r table' cells' g fronts.0 fronts.1)

  pub read-holds : Held head.trainees head.strikes head.ending table' cells'
  unfolding head_of
  read-holds =
      subst (λ h. Held h.trainees h.strikes h.ending table' cells') L.said (cells-hold r table' cells' g fronts.0 fronts.1)

-- ---- what is copied of it

cells-used : {n : ℕ} {o : Outcome} → LegalOutcome n o → ending_cells n (ending_of o) ≡ length (table_cells o)
unfolding ending_of table_cells
cells-used (legal_table e h) = sym e
cells-used (legal_held h g) = refl
cells-used (legal_room h g) = refl

module _ {s : List ℕ} {head : Ruling} {t t' k k' : List ℕ} (T : TextTaken s head t t' k k') where
  legal-taken : LegalRuling T.it
  legal-taken = (ruling-back s T.it T.goes).0

  pub taken-cells : ending_cells head.trainees head.ending ≡ length (table_cells T.it.outcome)
  unfolding head_of
  taken-cells =
      subst (λ h. ending_cells h.trainees h.ending ≡ length (table_cells T.it.outcome)) T.laid.said (cells-used legal-taken.outcome)

  pub taken-strikes : 4 * head.strikes ≡ length (strike_cells T.it.strikes)
  unfolding head_of
  taken-strikes = ap (λ h. 4 * h.strikes) (sym T.laid.said) ∙ sym (quads-length T.it.strikes)

  pub table-few : length (table_cells T.it.outcome) ≤ 256
  table-few = table_fits_lem legal-taken.n legal-taken.outcome

  pub strikes-few : length (strike_cells T.it.strikes) ≤ 16384
  strikes-few = omega (arith, legal-taken.few_strikes, quads-length T.it.strikes)

  -- the cells of a table or of strikes, copied from where they were laid
  copied : (l : List ℕ) {l' : List ℕ} (to : List ℕ) {to' : List ℕ} (vs : List ℕ) {n : ℕ} → l' ≡ sets l 0 vs → n ≡ length vs → length vs ≤ length l → to' ≡ sets to 0 (take n l') → to' ≡ sets to 0 vs
  copied l to vs e m h c = c ∙ ap₂ (λ x y. sets to 0 (take x y)) m e ∙ ap (sets to 0) (front-set l vs h)

  pub answer-taken : (table cells : List ℕ) {table' cells' : List ℕ} {n : ℕ} → n ≡ ending_cells head.trainees head.ending → 256 ≤ length t → 16384 ≤ length k
      → table' ≡ sets table 0 (take n t') → cells' ≡ sets cells 0 (take (4 * head.strikes) k')
      → answered (Ok head) table' cells' ≡ answered_by (read_ruling s) table cells
  unfolding answered_by
  answer-taken table cells m ht hk et ek =
      let x = copied t table (table_cells T.it.outcome) T.laid.in_table (m ∙ taken-cells) (omega (arith, table-few)) et in
      let y = copied k cells (strike_cells T.it.strikes) T.laid.in_cells taken-strikes (omega (arith, strikes-few)) ek in
      (λ i. answered (Ok (sym T.laid.said i)) (x i) (y i)) ∙ ap (λ z. answered_by z table cells) (sym T.goes)

pub answer-refused : (s table cells : List ℕ) (x : Misread) → read_ruling s ≡ refused (fault_number x.fault) x.line x.field → answered (Err x) table cells ≡ answered_by (read_ruling s) table cells
unfolding answered_by
answer-refused s table cells x h = ap (λ z. answered_by z table cells) (sym h)

-- the front of a list copied over that of another
pub front-copied : (to from : List ℕ) (n : ℕ) {ys : List ℕ} → ys ≡ take n from → n ≤ length to → n ≤ length from → ys ++ drop n to ≡ sets to 0 (take n from)
front-copied to from n e h g =
    let l = length-take-le n from g in
    let z : 0 + n ≡ n = omega arith in
    rw (e, sets-eq (take n from) to 0 (omega arith), l, z) refl
