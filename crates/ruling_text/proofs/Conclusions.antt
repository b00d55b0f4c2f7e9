-- The end of the text, from the first line after the strikes: one law for each way that reading it can go.
-- Assumes nothing.
use Prim.Native.Nat.{ℕ, ◌+◌, ◌<◌}
use mathlib.Core.Path.{◌≡◌, refl, sym, ap, ◌∙◌}
use mathlib.Core.Logic.{◌⊎◌, inl, inr, ⊎_elim}
use mathlib.Core.Bool.{true, false}
use mathlib.Core.List.{List, [], ◌∷◌}
use native.Mathlib.Omega.{arith}
use lib.ListN.{length, get_or}
use lib.Seq.{sets}
use lib.Dec.{eqb}
use Rattle.meaning.specs.Endings.{Outcome, placed_by}
use Rattle.meaning.specs.Solver.{ending_of}
use Rattle.meaning.specs.declared.Ending.{Ending}
use Rattle.meaning.specs.declared.Ending.TheVariants.{Placed}
use Rattle.meaning.proofs.Booleans.{true-or-false}
use Rattle.fields.specs.Bytes.{word_of, rest_of, same}
use Rattle.fields.specs.Reader.{got, refusal, line, first, line_end, keyword, at_end, number, lines}
use Rattle.fields.specs.Leaves.{wrong_on}
use Rattle.fields.specs.declared.Wrong.{Wrong}
use Rattle.fields.specs.declared.Misread.{Misread}
use Rattle.std.specs.Prelude.{Result, Ok, Err}
use Rattle.std.specs.Result.{MatchResult}
use Rattle.fields.proofs.Steps.{refusal-not-got, unless-back, unless-there}
use Rattle.ruling_text.specs.Words.{word_N}
use Rattle.rulings.specs.Legal.{LegalOutcome, legal_table, legal_held, legal_room}
use Rattle.ruling_text.specs.Reader.{Pair, pair, weightless, cell_line, none_of, none_fields, table, outcome, lines_of, end_fields, finish, conclusion}
use Rattle.ruling_text.specs.Cells.{joined, table_cells}
use Rattle.ruling_text.specs.Code.{Numbered, pair_numbers, cell_numbers, Filled, Concluded, NoneRead, ConclusionRead, ending_lines}
use Rattle.ruling_text.proofs.Outcomes.{outcome-back}

-- ---- why there is no table

none-no-table : (k : ℕ) (p : Pair) → table_cells (none_of k p) ≡ []
unfolding table_cells none_of
none-no-table k p = ⊎_elim
    (λ (t : eqb k 1 ≡ true). rw (t, none_of))
    (λ (f : eqb k 1 ≡ false). rw (f, none_of))
    (true-or-false (eqb k 1))

same-pair : (p : Pair) {v : List ℕ} → pair_numbers p ≡ v → p ≡ record { trainee = get_or v 0 0; depot = get_or v 1 0 }
same-pair p e = rw (← e) refl

pub none_is : (n : ℕ) (q : List ℕ) {k : ℕ} {u r r' v : List ℕ} {ending : Ending} → number 2 1 2 q ≡ got k u
    → Numbered pair_numbers (pair 3 n u) v r → line_end 5 r ≡ got tt r'
    → ending_of (none_of k (record { trainee = get_or v 0 0; depot = get_or v 1 0 })) ≡ ending
    → (t : List ℕ) → Concluded (none_fields n q) t t ending r'
unfolding none_fields
none_is n q {k} h P f g t =
    record {
      it = none_of k P.it;
      goes = rw (h, P.goes, f);
      said = ap (λ z. ending_of (none_of k z)) (same-pair P.it P.said) ∙ g;
      cells = ap (sets t 0) (sym (none-no-table k P.it));
    }

-- ---- the outcome

-- a table is its cells
cells-joined : (l : List ℕ) → joined cell_numbers l ≡ l
unfolding joined
cells-joined [] = refl
cells-joined (j ∷ l) = ap (λ z. j ∷ z) (cells-joined l)

module _ (n c : ℕ) (q : List ℕ) where
  module _ {r : List ℕ} (w : keyword word_N q ≡ got tt r) where
    none-line : outcome n c q ≡ line (c + 2) (none_fields n) r
    unfolding outcome keyword first
    none-line =
        let u = unless-back 3 1 (same (word_of q) word_N) (rest_of q) w in
        rw (u.0, outcome) (rw u.1)

    -- y is what the reader of the fields answers, x, with its line
    pub outcome-none : (t r' : List ℕ) (x : Result Ending Wrong) (y : Result Ending Misread) → MatchResult x (λ e. y ≡ Ok e) (λ z. y ≡ Err (wrong_on z (c + 2)))
        → NoneRead (none_fields n r) r' x → ConclusionRead (outcome n c q) t t r' y
    outcome-none t r' (Ok e) y h C = let D = C t in rw h (record { it = D.it; goes = none-line ∙ rw D.goes; said = D.said; cells = D.cells })
    outcome-none t r' (Err z) y h g = rw h (none-line ∙ rw g)

  module _ {e k : ℕ} (w : keyword word_N q ≡ refusal e 0 k) where
    table-lines : outcome n c q ≡ table n c q
    unfolding outcome keyword first
    table-lines = go (true-or-false (same (word_of q) word_N))
      where
        go : (same (word_of q) word_N ≡ true) ⊎ (same (word_of q) word_N ≡ false) → outcome n c q ≡ table n c q
        go (inl t) = absurd (refusal-not-got (sym w ∙ unless-there 3 1 (same (word_of q) word_N) (rest_of q) t))
        go (inr f) = rw (f, outcome)

    pub outcome-no-table : {e l k : ℕ} → lines (cell_line c) weightless n 1 0 [] q ≡ refusal e l k → outcome n c q ≡ refusal e l k
    unfolding table
    outcome-no-table h = table-lines ∙ rw h

    pub outcome-table : {t t' r : List ℕ} → Filled cell_numbers (lines (cell_line c) weightless n 1 0 [] q) t t' r
        → Concluded (outcome n c q) t t' Placed r
    unfolding table ending_of table_cells
    outcome-table {t} F =
        record {
          it = placed_by F.them;
          goes = table-lines ∙ rw F.goes;
          said = refl;
          cells = F.cells ∙ ap (sets t 0) (cells-joined F.them);
        }

-- ---- the end

extra : (l : ℕ) (r : List ℕ) → 0 < length r → at_end l r ≡ refusal 3 l 1
unfolding at_end
extra l [] h = absurd (omega arith)
extra l (b ∷ r) h = refl

nothing-left : (l : ℕ) (r : List ℕ) → length r ≡ 0 → at_end l r ≡ got tt []
unfolding at_end
nothing-left l [] h = refl
nothing-left l (b ∷ r) h = absurd (omega arith)

module _ (l : ℕ) (q : List ℕ) where
  pub finish-no-end : {e k : ℕ} → end_fields q ≡ refusal e 0 k → finish l q ≡ refusal e l k
  unfolding finish
  finish-no-end h = rw h

  module _ {r : List ℕ} (h : end_fields q ≡ got tt r) where
    pub finish-extra : 0 < length r → finish l q ≡ refusal 3 (l + 1) 1
    unfolding finish
    finish-extra b = rw h (extra (l + 1) r b)

    pub finish-here : length r ≡ 0 → finish l q ≡ got tt []
    unfolding finish
    finish-here b = rw h (nothing-left (l + 1) r b)

-- ---- all that follows the strikes

lines-ending : {n : ℕ} {o : Outcome} → LegalOutcome n o → lines_of o ≡ ending_lines n (ending_of o)
unfolding lines_of ending_of
lines-ending (legal_table e h) = e
lines-ending (legal_held h g) = refl
lines-ending (legal_room h g) = refl

module _ (n c : ℕ) (q : List ℕ) where
  module _ {t t' r : List ℕ} {ending : Ending} (C : Concluded (outcome n c q) t t' ending r) {v : ℕ} (m : v ≡ ending_lines n ending) where
    end_line : c + lines_of C.it + 2 ≡ c + v + 2
    end_line =
        let e : lines_of C.it ≡ v = lines-ending (outcome-back n c q C.goes).legal ∙ ap (ending_lines n) C.said ∙ sym m in
        ap (λ z. c + z + 2) e

    pub conclusion-no-end : {e l k : ℕ} → finish (c + v + 2) r ≡ refusal e l k → conclusion n c q ≡ refusal e l k
    unfolding conclusion
    conclusion-no-end h = rw (C.goes, end_line, h)

    pub conclusion-ends : finish (c + v + 2) r ≡ got tt [] → Concluded (conclusion n c q) t t' ending []
    unfolding conclusion
    conclusion-ends h = record { it = C.it; goes = rw (C.goes, end_line, h); said = C.said; cells = C.cells }
