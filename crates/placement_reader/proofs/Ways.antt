-- The answer and the lent tables, each way through the reader.
-- Assumes nothing.
use Prim.Native.Nat.{ℕ, ◌≤◌, ◌<◌}
use mathlib.Core.Path.{◌≡◌, sym, ap, ◌∙◌}
use mathlib.Core.Bool.{true, false}
use mathlib.Core.List.{List}
use native.Mathlib.Omega.{arith}
use lib.ListN.{length, take}
use Rattle.meaning.specs.Answers.{SHORT_PART, LONG_TEXT, refusal}
use Rattle.meaning.specs.Placement.{Placement}
use Rattle.std.specs.Prelude.{Ok, Err}
use Rattle.meaning.specs.declared.Refusal.{Refusal}
use Rattle.meaning.proofs.Answers.{refusal-again}
use Rattle.tables.specs.Cells.{head_cells, entry_cells, order_cells, laid}
use Rattle.tables.specs.Answers.{sized}
use Rattle.tables.proofs.Round.{cells_fit}
use Rattle.placement_text.specs.Reader.{read_text}
use Rattle.placement_text.proofs.Round.{read_back}
use Rattle.placement_text.proofs.Whole.{read-long}
use Rattle.placement_reader.specs.Reading.{reads, reading, reading_of}
use Rattle.fields.specs.declared.Misread.{Misread}
use Rattle.placement_reader.specs.declared.Used.{Used}
use Rattle.placement_reader.specs.Code.{refused_for, All}
use Rattle.placement_reader.proofs.Fronts.{front}

-- ---- a text that is not too long, with tables of the full sizes

pub answer-refused : (s h e o : List ℕ) (x : Misread) → read_text s ≡ refused_for x
    → reads (Err (record { fault = x.fault; line = x.line })) h e o ≡ reading (read_text s) h e o
unfolding reading
answer-refused s h e o x w =
    let r : Refusal = record { fault = x.fault; line = x.line } in
    sym (ap (λ z. reading z h e o) w ∙ ap (λ z. reads (Err z) h e o) (refusal-again r))

-- the used cells fit in tables of the full sizes
pub record Fits (x : Used) : Type 0 where
  pub heads : x.heads ≤ 707
  pub entries : x.entries ≤ 8192
  pub orders : x.orders ≤ 3073

module _ {s h h' t t' o o' : List ℕ} {used : Used} (w : All s h h' t t' o o' used) where
  pub used_fits : Fits used
  used_fits =
      let f = cells_fit w.it (read_back s w.it w.goes).0 in
      record { heads = omega (arith, f.heads, w.heads_used); entries = omega (arith, f.entries, w.entries_used); orders = omega (arith, f.orders, w.orders_used) }

  pub answer-taken : (x y z : List ℕ) → length h ≡ 707 → length t ≡ 8192 → length o ≡ 3073
      → reads (Ok tt) (laid (take used.heads h') x) (laid (take used.entries t') y) (laid (take used.orders o') z) ≡ reading (read_text s) x y z
  unfolding reading
  answer-taken x y z lh lt lo =
      let p : Placement = w.it in
      let f = cells_fit p (read_back s p w.goes).0 in
      let hs : take used.heads h' ≡ head_cells p = ap (take used.heads) w.heads ∙ front h (head_cells p) used.heads (omega (arith, f.heads)) w.heads_used in
      let es : take used.entries t' ≡ entry_cells p = ap (take used.entries) w.entries ∙ front t (entry_cells p) used.entries (omega (arith, f.entries)) w.entries_used in
      let os : take used.orders o' ≡ order_cells p = ap (take used.orders) w.orders ∙ front o (order_cells p) used.orders (omega (arith, f.orders)) w.orders_used in
      (λ i. reads (Ok tt) (laid (hs i) x) (laid (es i) y) (laid (os i) z)) ∙ sym (ap (λ r. reading r x y z) w.goes)

-- ---- any text and any tables

module _ (s h e o : List ℕ) where
  pub answer-short : sized h e o ≡ false → reads (Err (refusal SHORT_PART 0)) h e o ≡ reading_of s h e o
  unfolding reading_of
  answer-short f = sym (rw (f, reading_of))

  pub answer-read : sized h e o ≡ true → reading (read_text s) h e o ≡ reading_of s h e o
  unfolding reading_of
  answer-read f = sym (rw (f, reading_of))

  pub answer-long : sized h e o ≡ true → 65536 < length s → reads (Err (refusal LONG_TEXT 0)) h e o ≡ reading_of s h e o
  unfolding reading
  answer-long f l = sym (ap (λ r. reading r h e o) (read-long s l)) ∙ answer-read f
