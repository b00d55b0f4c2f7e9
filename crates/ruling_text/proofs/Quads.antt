-- Strikes in cells, four by four: how many cells they take, where the cells of one stand, and that cells that hold strikes say these.
-- Assumes nothing.
use Prim.Native.Nat.{ℕ, zero, suc, ◌+◌, ◌*◌, ◌≤◌, ◌<◌}
use mathlib.Core.Path.{◌≡◌, refl, sym, ap, ◌∙◌}
use mathlib.Core.List.{List, [], ◌∷◌, ◌++◌}
use native.Mathlib.Omega.{arith}
use lib.ListN.{length, get_or, take, drop, take-append-drop, length-take, length-drop}
use lib.Seq.{take-append-le, drop-append-le}
use Rattle.meaning.specs.Answers.{strike_numbers}
use Rattle.meaning.specs.declared.Strike.{Strike}
use Rattle.fields.specs.Writer.{write_line, write_lines, lines_by}
use Rattle.fields.proofs.Pens.{by-lines}
use Rattle.ruling_text.specs.Words.{word_S}
use Rattle.ruling_text.specs.Writer.{write_strike}
use Rattle.ruling_text.specs.Cells.{joined, strike_cells, strike_at, strikes_from, strikes_in}

pub quads-length : (xs : List Strike) → length (strike_cells xs) ≡ 4 * length xs
unfolding strike_cells joined strike_numbers
quads-length [] = refl
quads-length (x ∷ xs) = omega (arith, quads-length xs)

-- the four cells of strike i
quad_at : (xs : List Strike) (i : ℕ) (d : Strike) → i < length xs → take 4 (drop (4 * i) (strike_cells xs)) ≡ strike_numbers (get_or xs i d)
unfolding strike_cells joined strike_numbers
quad_at [] i d h = absurd (omega arith)
quad_at (x ∷ xs) zero d h = refl
quad_at (x ∷ xs) (suc i) d h =
    let e : 4 * suc i ≡ suc (suc (suc (suc (4 * i)))) = omega arith in
    rw e (quad_at xs i d (omega arith))

from-length : (cells : List ℕ) (c p : ℕ) → length (strikes_from cells c p) ≡ c
unfolding strikes_from
from-length cells zero p = refl
from-length cells (suc c) p = ap suc (from-length cells c (p + 4))

pub strikes-length : (cells : List ℕ) (count : ℕ) → length (strikes_in cells count) ≡ count
unfolding strikes_in
strikes-length cells count = from-length cells count 0

-- the front of the cells is that of their strikes
module _ (cells : List ℕ) (count : ℕ) (e : strike_cells (strikes_in cells count) ≡ take (4 * count) cells) where
  pub held-room : 4 * count ≤ length cells
  held-room =
      omega (
        arith,
        ap length e ∙ length-take (4 * count) cells,
        quads-length (strikes_in cells count),
        strikes-length cells count,
      )

  held-quad : (i : ℕ) (d : Strike) → i < count → take 4 (drop (4 * i) cells) ≡ strike_numbers (get_or (strikes_in cells count) i d)
  held-quad i d h =
      let xs : List Strike = strikes_in cells count in
      let n : length (strike_cells xs) ≡ 4 * count = quads-length xs ∙ ap (λ z. 4 * z) (strikes-length cells count) in
      ap (λ z. take 4 (drop (4 * i) z)) (sym (ap (λ z. z ++ drop (4 * count) cells) e ∙ take-append-drop (4 * count) cells))
      ∙ ap (take 4) (drop-append-le (4 * i) (strike_cells xs) (drop (4 * count) cells) (omega arith))
      ∙ take-append-le 4 (drop (4 * i) (strike_cells xs)) (drop (4 * count) cells) (simp length-drop (omega arith))
      ∙ quad_at xs i d (omega (arith, strikes-length cells count))

  -- the line of strike i is a word and its cells
  pub held-lines : lines_by (λ i. write_line word_S (take 4 (drop (4 * i) cells))) 0 count ≡ write_lines write_strike 1 (strikes_in cells count)
  unfolding write_strike
  held-lines =
      let d = strike_at cells 0 in
      let xs : List Strike = strikes_in cells count in
      ap (lines_by (λ i. write_line word_S (take 4 (drop (4 * i) cells))) 0) (sym (strikes-length cells count))
      ∙ by-lines write_strike (λ i. write_line word_S (take 4 (drop (4 * i) cells))) d xs 1 0 (λ j h.
      let e : 0 + j ≡ j = omega arith in
      rw e (ap (write_line word_S) (held-quad j d (omega (arith, strikes-length cells count)))))
