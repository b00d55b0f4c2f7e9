-- The parts of a strike's line.
-- Assumes nothing.
use Prim.Native.Nat.{ℕ}
use mathlib.Core.Path.{◌≡◌, refl}
use mathlib.Core.List.{List, [], ◌∷◌}
use lib.ListN.{get_or}
use Rattle.meaning.specs.Answers.{strike_numbers}
use Rattle.fields.specs.Reader.{got, line_end, keyword, number}
use Rattle.ruling_text.specs.Words.{word_S}
use Rattle.ruling_text.specs.Reader.{pair, low_witness, high_witness, reason_of, reason, strike_fields}
use Rattle.ruling_text.specs.Code.{Numbered, pair_numbers, reason_numbers}
use Rattle.fields.proofs.Words.{number-back}
use Rattle.ruling_text.proofs.Strikes.{reason-coded}

-- ---- reason and witness

module _ (n : ℕ) (q : List ℕ) where
  pub reason-is : {k w : ℕ} {r t : List ℕ} → number 4 1 4 q ≡ got k r → number 5 (low_witness k) (high_witness n k) r ≡ got w t
      → Numbered reason_numbers (reason n q) (k ∷ w ∷ []) t
  unfolding reason
  reason-is {k} {w} {r} h g =
      let f = number-back 4 1 4 q h in
      let v = number-back 5 (low_witness k) (high_witness n k) r g in
      let c = reason-coded n k w f.low f.high v.low v.high in
      record { it = reason_of k w; goes = rw (h, g); said = rw (c.number, c.witness) }

  -- ---- a strike

  pub strike-is : {r t u x v w : List ℕ} → keyword word_S q ≡ got tt r → Numbered pair_numbers (pair 2 n r) v t → Numbered reason_numbers (reason n t) w u
      → line_end 6 u ≡ got tt x → Numbered strike_numbers (strike_fields n q) (get_or v 0 0 ∷ get_or v 1 0 ∷ get_or w 0 0 ∷ get_or w 1 0 ∷ []) x
  unfolding strike_fields strike_numbers
  strike-is h P R f =
      record {
        it = record { trainee = P.it.trainee; depot = P.it.depot; reason = R.it };
        goes = rw (h, P.goes, R.goes, f);
        said = rw (← P.said, ← R.said) refl;
      }
