-- The whole text: one law for each way that reading it can go.
-- Assumes nothing.
use Prim.Native.Nat.{ℕ, ◌≤◌, ◌<◌}
use mathlib.Core.Path.{◌≡◌, ap, ◌∙◌}
use mathlib.Core.List.{List, []}
use lib.ListN.{length}
use borrow.Author.Tests.{le-leb, lt-leb}
use Rattle.meaning.specs.Answers.{strike_numbers}
use Rattle.meaning.specs.Solver.{head_of}
use Rattle.std.specs.Prelude.{Result, Ok, Err}
use Rattle.meaning.specs.declared.Ending.{Ending}
use Rattle.meaning.specs.declared.Ruling.{Ruling}
use Rattle.fields.specs.declared.Misread.{Misread}
use Rattle.ruling_text.specs.declared.sizes.Sizes.{Sizes}
use Rattle.fields.specs.Reader.{got, refusal, lines}
use Rattle.fields.proofs.Lines.{lines-back}
use Rattle.rulings.specs.Legal.{LegalStrike}
use Rattle.ruling_text.specs.Writer.{write_strike}
use Rattle.ruling_text.specs.Reader.{strike_line, weightless, conclusion, head_fields, body, ruling, refused, answer, read_ruling}
use Rattle.ruling_text.specs.Cells.{strike_cells}
use Rattle.ruling_text.specs.Code.{head_of_sizes, Filled, Concluded, BodyTaken, BodyRead, TextRead}
use Rattle.ruling_text.proofs.Strikes.{strike-back}

-- ---- all that follows the first line

module _ (n c : ℕ) (q : List ℕ) where
  module _ {cells cells' r : List ℕ} (F : Filled strike_numbers (lines (strike_line n) weightless c 1 0 [] q) cells cells' r) where
    as_many : length F.them ≡ c
    as_many =
        let b = lines-back (strike_line n) weightless write_strike (LegalStrike n) 0 (strike-back n) c 1 0 [] q F.them r F.goes in
        ap length b.all ∙ b.count

    pub body-taken : {table table' : List ℕ} {ending : Ending} → Concluded (conclusion n c r) table table' ending []
        → BodyTaken (body (record { n = n; s = c }) q) (record { trainees = n; strikes = c; ending = ending }) table table' cells cells'
    unfolding body head_of strike_cells
    body-taken E =
        record {
          it = record { trainees = n; strikes = F.them; outcome = E.it };
          goes = rw (F.goes, E.goes);
          laid = record {
            said = λ t. record { trainees = n; strikes = as_many t; ending = E.said t };
            in_table = E.cells;
            in_cells = F.cells;
          };
        }

-- ---- the whole

pub text-long : (s : List ℕ) → 65536 < length s → read_ruling s ≡ refused 2 0 0
unfolding read_ruling
text-long s h = rw (lt-leb (length s) 65536 h, read_ruling)

module _ (s : List ℕ) (short : length s ≤ 65536) where
  answered : read_ruling s ≡ answer (ruling s)
  unfolding read_ruling
  answered = rw (le-leb (length s) 65536 short, read_ruling)

  pub text-no-head : {e k : ℕ} → head_fields s ≡ refusal e 0 k → read_ruling s ≡ refused e 1 k
  unfolding ruling answer
  text-no-head h = answered ∙ rw h

  -- the first line says the sizes z, and r is left
  pub text-read : (z : Sizes) {r : List ℕ} → head_fields s ≡ got (head_of_sizes z) r → (x : Result Ruling Misread) (table table' cells cells' : List ℕ)
      → BodyRead (body (head_of_sizes z) r) table table' cells cells' x → TextRead s table table' cells cells' x
  unfolding ruling answer
  text-read z h (Ok head) table table' cells cells' B = record { it = B.it; goes = answered ∙ rw h (ap answer B.goes); laid = B.laid }
  text-read z h (Err x) table table' cells cells' B = answered ∙ rw h (ap answer B)
