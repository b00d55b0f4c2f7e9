-- The answer and the output, each way through the writer.
-- Assumes nothing.
use Prim.Native.Nat.{ℕ, ◌+◌, ◌≤◌, ◌<◌}
use mathlib.Core.Path.{◌≡◌, refl, sym, ap, ap₂, ◌∙◌}
use mathlib.Core.Bool.{true, false}
use mathlib.Core.Option.{Option, none, some}
use mathlib.Core.List.{List, ◌++◌}
use native.Mathlib.Omega.{arith}
use lib.ListN.{length, drop}
use lib.Seq.{sets-eq}
use borrow.Author.Tests.{le-leb, lt-leb}
use Rattle.meaning.specs.Numbers.{◌&◌}
use Rattle.meaning.specs.Answers.{SHORT_PART, NOT_READ, refusal}
use Rattle.meaning.specs.Placement.{Placement}
use Rattle.std.specs.Prelude.{Ok, Err}
use Rattle.meaning.proofs.Booleans.{never}
use Rattle.fields.specs.Leaves.{Put}
use Rattle.tables.specs.Cells.{laid}
use Rattle.tables.specs.Decode.{placement_of}
use Rattle.tables.specs.Answers.{sized}
use Rattle.tables.specs.Walk.{is_some}
use Rattle.tables.proofs.Round.{tables-back}
use Rattle.placement_text.specs.Writer.{text_of}
use Rattle.placement_text.proofs.Short.{text-short}
use Rattle.placement_writer.specs.Writing.{writes, writing, writing_of}

-- what was put from the first cell on is laid over the front
put-laid : (out out' bytes : List ℕ) (r : ℕ) → length bytes ≤ length out → Put out out' 0 bytes r → out' ≡ laid bytes out
unfolding laid
put-laid out out' bytes r h P =
    let z : 0 + length bytes ≡ length bytes = omega arith in
    P.cells ∙ sets-eq bytes out 0 (omega arith) ∙ ap (λ k. bytes ++ drop k out) z

module _ (h e o out : List ℕ) where
  pub answer-short : sized h e o ≡ false → writes (Err (refusal SHORT_PART 0)) out ≡ writing_of h e o out
  unfolding writing_of ◌&◌
  answer-short f = sym (rw (f, writing_of))

  module _ (f : sized h e o ≡ true) where
    pub answer-short-out : length out < 65536 → writes (Err (refusal SHORT_PART 0)) out ≡ writing_of h e o out
    unfolding writing_of ◌&◌
    answer-short-out l = sym (rw (f, lt-leb 65536 (length out) l, writing_of))

    module _ (room : 65536 ≤ length out) where
      pub answer-tables : writing (placement_of h e o) out ≡ writing_of h e o out
      unfolding writing_of ◌&◌
      answer-tables = sym (rw (f, le-leb 65536 (length out) room, writing_of))

      pub answer-unread : is_some (placement_of h e o) ≡ false → writes (Err (refusal NOT_READ 0)) out ≡ writing_of h e o out
      unfolding writing
      answer-unread u = go (placement_of h e o) refl u ∙ answer-tables
        where
          go : (q : Option Placement) → placement_of h e o ≡ q → is_some q ≡ false → writes (Err (refusal NOT_READ 0)) out ≡ writing (placement_of h e o) out
          go none k u = sym (ap (λ q. writing q out) k)
          go (some p) k u = absurd (never refl u)

      pub answer-written : (p : Placement) → placement_of h e o ≡ some p → {out' : List ℕ} {r : ℕ} → Put out out' 0 (text_of p) r → writes (Ok r) out' ≡ writing_of h e o out
      unfolding writing
      answer-written p k {out'} {r} P =
          let s = text-short p (tables-back h e o p k).legal in
          let n : r ≡ length (text_of p) = P.next ∙ (omega arith) in
          ap₂ (λ x y. writes (Ok x) y) n (put-laid out out' (text_of p) r (omega arith) P) ∙ sym (ap (λ q. writing q out) k) ∙ answer-tables
