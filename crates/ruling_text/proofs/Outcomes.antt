-- The table, or the line that says why there is none, and the end line: there and back.
-- Assumes nothing.
use Prim.Native.Nat.{ℕ, zero, suc, ◌+◌, ◌≤◌}
use mathlib.Core.Path.{◌≡◌, refl, sym, ap, ◌∙◌, subst}
use mathlib.Core.Logic.{◌⊎◌, inl, inr}
use mathlib.Core.Bool.{true, false}
use mathlib.Core.List.{List, [], ◌∷◌, ◌++◌, append_assoc, append-nil}
use native.Mathlib.Omega.{arith}
use lib.Dec.{lit<}
use Rattle.meaning.specs.Numbers.{In, ◌&◌}
use Rattle.meaning.specs.Lists.{each_none, each_more}
use Rattle.meaning.specs.Endings.{Outcome, placed_by}
use Rattle.fields.specs.Bytes.{LF, stop?, word_of, rest_of, same, word_end}
use Rattle.fields.specs.Reader.{got, line, line_end, keyword, number, running, lines, at_end, unless, first}
use Rattle.fields.specs.Writer.{write_number, write_lines, write_numbers, write_line}
use Rattle.meaning.proofs.Booleans.{true-or-false}
use Rattle.fields.proofs.Steps.{refusal-not-got, went, got-value, got-rest, on_line_lem}
use Rattle.fields.proofs.Words.{Word, stops, word-there, rest-there, word-rest, same-eq, same_refl, end-there, end_back, keyword-there, keyword-back, number-stops, lf-stops, number-there, number-back, running-there, running-back}
use Rattle.fields.proofs.Lines.{Line, lines-there, lines-back}
use Rattle.ruling_text.specs.Words.{word_A, word_N}
use Rattle.rulings.specs.Legal.{DEPOTS, LegalOutcome, legal_table, legal_held, legal_room}
use Rattle.ruling_text.specs.Writer.{write_cell, write_none, write_outcome, write_end}
use Rattle.ruling_text.specs.Reader.{Pair, pair, weightless, cell_fields, cell_line, none_of, none_fields, table, outcome, lines_of, end_fields, finish, conclusion}
use Rattle.ruling_text.proofs.Strikes.{weightless-sum, pair-there, pair-back}

-- ---- a cell of the table

A-word : Word word_A
unfolding stop?
A-word = each_more refl each_none

-- a depot, or 0 for none
abbrev LegalCell : ℕ → Type 0
LegalCell j = j ≤ DEPOTS

cell-there : (s i total j : ℕ) (r : List ℕ) → i ≤ 256 → LegalCell j → total + weightless j ≤ 0 → cell_line s i total (write_cell i j ++ r) ≡ got j r
unfolding cell_line cell_fields write_cell write_line write_numbers
cell-there s i total j r hi hj t =
    simp append_assoc
    (rw (
      keyword-there word_A (write_number i ++ (write_number j ++ LF ∷ r)) A-word (number-stops i (write_number j ++ LF ∷ r)),
      running-there 2 i (write_number j ++ LF ∷ r) (omega arith) (number-stops j (LF ∷ r)),
      number-there 3 0 DEPOTS j (LF ∷ r) (omega arith) hj (lit< tt) (lf-stops r),
      end-there 4 r,
    ))

abbrev CellLine : ℕ → ℕ → ℕ → List ℕ → ℕ → List ℕ → Type 0
CellLine s = Line (cell_line s) weightless write_cell LegalCell 0

cell-fields : (s i total : ℕ) (t : List ℕ) {j : ℕ} {r : List ℕ} → cell_fields i t ≡ got j r → CellLine s i total t j r
unfolding cell_fields write_cell write_line write_numbers weightless
cell-fields s i total t {j} {r} h =
    let a = went (keyword word_A t) _ h in
    let b = went (running 2 i a.rest) _ a.on in
    let c = went (number 3 0 DEPOTS b.rest) _ b.on in
    let d = went (line_end 4 c.rest) _ c.on in
    let f = number-back 3 0 DEPOTS b.rest c.here in
    subst (λ z. CellLine s i total t z r) (got-value d.on)
    (record {
      legal = f.high;
      fits = λ z. omega arith;
      text =
          keyword-back word_A t a.here
          ∙ ap (λ z. word_A ++ z)
          (running-back 2 i a.rest b.here
          ∙ ap (λ z. write_number i ++ z)
          (f.text ∙ ap (λ z. write_number c.value ++ z) (end_back 4 c.rest d.here ∙ ap (λ z. LF ∷ z) (got-rest d.on))))
          ∙ sym (simp append_assoc);
    })

cell-back : (s i total : ℕ) (t : List ℕ) (j : ℕ) (r : List ℕ) → cell_line s i total t ≡ got j r → CellLine s i total t j r
unfolding cell_line
cell-back s i total t j r h = cell-fields s i total t (on_line_lem (s + i + 1) (cell_fields i t) h)

-- ---- why there is no table

N-word : Word word_N
unfolding stop?
N-word = each_more refl each_none

none-there : (n k i j : ℕ) (r : List ℕ) → n ≤ 256 → 1 ≤ k → k ≤ 2 → In n i → In DEPOTS j
    → none_fields n (write_number k ++ (write_number i ++ (write_number j ++ LF ∷ r))) ≡ got (none_of k (record { trainee = i; depot = j })) r
unfolding none_fields
none-there n k i j r hn l h hi hj =
    rw (
      number-there 2 1 2 k (write_number i ++ (write_number j ++ LF ∷ r)) l h (lit< tt) (number-stops i (write_number j ++ LF ∷ r)),
      pair-there 3 n i j (LF ∷ r) hn hi hj (lf-stops r),
      end-there 5 r,
    )

-- what an outcome says that was read
pub record OutcomeRead (n : ℕ) (s r : List ℕ) (o : Outcome) : Type 0 where
  pub legal : LegalOutcome n o
  pub text : s ≡ write_outcome o ++ r

none_of_lem : (n k : ℕ) (p : Pair) → 1 ≤ k → k ≤ 2 → In n p.trainee → In DEPOTS p.depot
    → LegalOutcome n (none_of k p) × (write_outcome (none_of k p) ≡ write_none k p.trainee p.depot)
unfolding none_of write_outcome
none_of_lem n zero p l h i j = absurd (omega arith)
none_of_lem n (suc zero) p l h i j = (legal_held i j, refl)
none_of_lem n (suc (suc zero)) p l h i j = (legal_room i j, refl)
none_of_lem n (suc (suc (suc k))) p l h i j = absurd (omega arith)

none-back : (n : ℕ) (s : List ℕ) {o : Outcome} {r : List ℕ} → none_fields n s ≡ got o r → OutcomeRead n (word_N ++ s) r o
unfolding none_fields write_none write_line write_numbers
none-back n s {o} {r} h =
    let a = went (number 2 1 2 s) _ h in
    let b = went (pair 3 n a.rest) _ a.on in
    let c = went (line_end 5 b.rest) _ b.on in
    let k = number-back 2 1 2 s a.here in
    let p = pair-back 3 n a.rest b.here in
    let q = none_of_lem n a.value b.value k.low k.high p.trainee p.depot in
    subst (OutcomeRead n (word_N ++ s) r) (got-value c.on)
    (record {
      legal = q.0;
      text =
          ap (λ z. word_N ++ z)
          (k.text
          ∙ ap (λ z. write_number a.value ++ z)
          (p.text
          ∙ ap (λ z. write_number b.value.trainee ++ (write_number b.value.depot ++ z))
          (end_back 5 b.rest c.here ∙ ap (λ z. LF ∷ z) (got-rest c.on))))
          ∙ sym (simp append_assoc)
          ∙ ap (λ z. z ++ r) (sym q.1);
    })

-- ---- the outcome

-- a table's first word, or the end line's, isn't the word of a line that says why there is none
table-word : (l : List ℕ) → same (word_of (write_lines write_cell 1 l ++ write_end)) word_N ≡ false
unfolding write_lines write_cell write_line write_numbers write_number word_of stop? same ◌&◌
table-word [] = refl
table-word (j ∷ l) = refl

none-outcome : (n s k i j : ℕ) (r : List ℕ) → n ≤ 256 → 1 ≤ k → k ≤ 2 → In n i → In DEPOTS j
    → outcome n s (write_none k i j ++ r) ≡ got (none_of k (record { trainee = i; depot = j })) r
unfolding outcome write_none write_line write_numbers
none-outcome n s k i j r hn l h hi hj =
    let rest : List ℕ = write_number k ++ (write_number i ++ (write_number j ++ LF ∷ r)) in
    let t : stops rest ≡ true = number-stops k (write_number i ++ (write_number j ++ LF ∷ r)) in
    simp append_assoc
    (rw (word-there word_N rest N-word t, same_refl word_N, outcome) (rw (rest-there word_N rest N-word t, none-there n k i j r hn l h hi hj)))

outcome-there : (n s : ℕ) (o : Outcome) → n ≤ 256 → LegalOutcome n o → outcome n s (write_outcome o ++ write_end) ≡ got o write_end
unfolding outcome table write_outcome none_of
outcome-there n s _ hn (legal_table {l = l} e g) =
    rw (table-word l, outcome, sym e)
    (rw (lines-there (cell_line s) weightless write_cell LegalCell 0 256 (cell-there s) 1 0 l [] write_end (omega arith) g (omega (arith, weightless-sum l))))
outcome-there n s _ hn (legal_held {i = i} {j = j} hi hj) = none-outcome n s 1 i j write_end hn (omega arith) (omega arith) hi hj
outcome-there n s _ hn (legal_room {i = i} {j = j} hi hj) = none-outcome n s 2 i j write_end hn (omega arith) (omega arith) hi hj

table-back : (n s : ℕ) (t : List ℕ) {o : Outcome} {r : List ℕ} → table n s t ≡ got o r → OutcomeRead n t r o
unfolding table write_outcome
table-back n s t {o} {r} h =
    let a = went (lines (cell_line s) weightless n 1 0 [] t) _ h in
    let x = lines-back (cell_line s) weightless write_cell LegalCell 0 (cell-back s) n 1 0 [] t a.value a.rest a.here in
    subst (OutcomeRead n t r) (ap placed_by (sym x.all) ∙ got-value a.on)
    (record { legal = legal_table x.count x.legal; text = x.text ∙ ap (λ z. write_lines write_cell 1 x.xs ++ z) (got-rest a.on) })

pub outcome-back : (n s : ℕ) (t : List ℕ) {o : Outcome} {r : List ℕ} → outcome n s t ≡ got o r → OutcomeRead n t r o
unfolding outcome
outcome-back n s t {o} {r} h = go (true-or-false (same (word_of t) word_N))
  where
    go : (same (word_of t) word_N ≡ true) ⊎ (same (word_of t) word_N ≡ false) → OutcomeRead n t r o
    go (inl e) =
        let b = none-back n (rest_of t) (on_line_lem (s + 2) (none_fields n (rest_of t)) (rw (e, outcome) at h)) in
        let w : word_N ++ rest_of t ≡ t = ap (λ z. z ++ rest_of t) (sym (same-eq (word_of t) word_N e)) ∙ word-rest t in
        subst (λ z. OutcomeRead n z r o) w b
    go (inr f) = table-back n s t (rw (f, outcome) at h)

-- ---- the end

finish-there : (l : ℕ) → finish l write_end ≡ got tt []
unfolding finish end_fields keyword first unless line_end at_end word_of rest_of stop? same ◌&◌
finish-there l = refl

end-fields : (s : List ℕ) {t : Unit {0}} {r : List ℕ} → end_fields s ≡ got t r → s ≡ write_end ++ r
unfolding end_fields
end-fields s h =
    let a = went (keyword word_end s) _ h in
    keyword-back word_end s a.here ∙ ap (λ x. word_end ++ x) (end_back 2 a.rest a.on)

finish-back : (l : ℕ) (s : List ℕ) {t : Unit {0}} {r : List ℕ} → finish l s ≡ got t r → s ≡ write_end
unfolding finish at_end
finish-back l s {t} {r} h =
    let a = went (line l end_fields s) _ h in
    go a.rest (end-fields s (on_line_lem l (end_fields s) a.here)) a.on
  where
    go : (q : List ℕ) → s ≡ write_end ++ q → at_end (l + 1) q ≡ got t r → s ≡ write_end
    go [] e g = e ∙ append-nil write_end
    go (x ∷ q) e g = absurd (refusal-not-got g)

-- ---- all that follows the strikes

pub conclusion-there : (n s : ℕ) (o : Outcome) → n ≤ 256 → LegalOutcome n o → conclusion n s (write_outcome o ++ write_end) ≡ got o []
unfolding conclusion
conclusion-there n s o hn g = rw (outcome-there n s o hn g, finish-there (s + lines_of o + 2))

pub conclusion-back : (n s : ℕ) (t : List ℕ) {o : Outcome} {r : List ℕ} → conclusion n s t ≡ got o r → OutcomeRead n t write_end o
unfolding conclusion
conclusion-back n s t {o} {r} h =
    let a = went (outcome n s t) _ h in
    let b = went (finish (s + lines_of a.value + 2) a.rest) _ a.on in
    let y = outcome-back n s t a.here in
    subst (OutcomeRead n t write_end) (got-value b.on)
    (record {
      legal = y.legal;
      text = y.text ∙ ap (λ w. write_outcome a.value ++ w) (finish-back (s + lines_of a.value + 2) a.rest b.here);
    })
