-- The text of a ruling that cells hold, put part by part: head, strikes, outcome, end.
-- Assumes nothing.
use Prim.Native.Nat.{ℕ, ◌+◌, ◌≤◌}
use mathlib.Core.Path.{◌≡◌, sym, ap}
use mathlib.Core.List.{List, ◌++◌}
use native.Mathlib.Omega.{arith}
use lib.ListN.{length, length-append}
use Rattle.meaning.specs.declared.Ending.{Ending}
use Rattle.fields.specs.Writer.{write_lines}
use Rattle.ruling_text.specs.Writer.{write_strike, write_outcome, write_head, write_end, ruling_text}
use Rattle.ruling_text.specs.Cells.{strikes_in, outcome_in, ruling_in, Held}
use Rattle.ruling_text.proofs.Short.{ruling-short}
use Rattle.ruling_text.proofs.Quads.{strikes-length}

module _ (n count : ℕ) (ending : Ending) (table cells : List ℕ) where
  abbrev strikes : List ℕ
  strikes = write_lines write_strike 1 (strikes_in cells count)

  abbrev outcome : List ℕ
  outcome = write_outcome (outcome_in n ending table)

  pub text-parts : write_head n count ++ strikes ++ outcome ++ write_end ≡ ruling_text (ruling_in n count ending table cells)
  unfolding ruling_text ruling_in
  text-parts = ap (λ k. write_head n k ++ strikes ++ outcome ++ write_end) (sym (strikes-length cells count))

  pub parts-fit : Held n count ending table cells → length (write_head n count) + length strikes + length outcome + length write_end ≤ 65536
  parts-fit H =
      omega (
        arith,
        simp length-append at (ap length text-parts),
        ruling-short (ruling_in n count ending table cells) H.legal,
      )
