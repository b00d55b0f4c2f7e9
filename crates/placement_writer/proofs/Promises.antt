-- What the answers of `write_placement` mean, and the text there and back (document 01, "Numbers given back").
-- Assumes nothing.
use Prim.Native.Nat.{ℕ, ◌≤◌, ◌<◌}
use mathlib.Core.Path.{◌≡◌, refl, sym, ap, ◌∙◌}
use mathlib.Core.Logic.{◌⊎◌, inl, inr}
use mathlib.Core.Bool.{true, false}
use mathlib.Core.Option.{Option, none, some}
use mathlib.Core.List.{List}
use native.Mathlib.Omega.{arith}
use lib.ListN.{length, take}
use lib.Seq.{take-append_seam}
use Rattle.meaning.specs.Answers.{NOT_READ, SHORT_PART, fault_number, refusal}
use Rattle.meaning.specs.Placement.{Placement}
use Rattle.meaning.specs.declared.Refusal.{Refusal}
use Rattle.std.specs.Prelude.{Ok, Err}
use Rattle.meaning.proofs.Booleans.{true-or-false, never}
use Rattle.meaning.proofs.Numbers.{order}
use Rattle.tables.specs.Cells.{laid, Holds}
use Rattle.tables.specs.Decode.{placement_of}
use Rattle.tables.specs.Answers.{sized}
use Rattle.tables.proofs.Round.{tables-back, held-decodes, refused-exactly}
use Rattle.placement_text.specs.Writer.{text_of}
use Rattle.placement_reader.specs.Reading.{reads, reading_of}
use Rattle.placement_reader.proofs.Promises.{legal-read, taken_as, taken-sized}
use Rattle.placement_writer.specs.Writing.{writes, writing, writing_of}
use Rattle.placement_writer.proofs.Ways.{answer-short, answer-short-out, answer-tables}

-- ---- a refusal changes no lent cell

writing-refused : (q : Option Placement) (out : List ℕ) {x : Refusal} → (writing q out).answer ≡ Err x → writing q out ≡ writes (Err x) out
unfolding writing
writing-refused none out k = ap (λ z. writes z out) k
writing-refused (some p) out k = let z : ◌≡◌ {A = ℕ} 0 1 = cc in absurd (omega arith)

module _ (h e o out : List ℕ) where
  -- one of number 1, number 8, and the text
  pub data Ways : Type 0 where
    too_short : writes (Err (refusal SHORT_PART 0)) out ≡ writing_of h e o out → (sized h e o ≡ false) ⊎ (length out < 65536) → Ways
    long-enough : writing (placement_of h e o) out ≡ writing_of h e o out → sized h e o ≡ true → 65536 ≤ length out → Ways

  pub ways : Ways
  ways = go (true-or-false (sized h e o)) (order 65536 (length out))
    where
      go : (sized h e o ≡ true) ⊎ (sized h e o ≡ false) → (65536 ≤ length out) ⊎ (length out < 65536) → Ways
      go (inr f) l = too_short (answer-short h e o out f) (inl f)
      go (inl t) (inr l) = too_short (answer-short-out h e o out t l) (inr l)
      go (inl t) (inl l) = long-enough (answer-tables h e o out t l) t l

  pub refused-unchanged : {x : Refusal} → (writing_of h e o out).answer ≡ Err x → writing_of h e o out ≡ writes (Err x) out
  refused-unchanged {x} k = go ways
    where
      go : Ways → writing_of h e o out ≡ writes (Err x) out
      go (too_short q c) = sym q ∙ ap (λ z. writes z out) (ap (λ z. z.answer) q ∙ k)
      go (long-enough q t l) = sym q ∙ writing-refused (placement_of h e o) out (ap (λ z. z.answer) q ∙ k)

  -- ---- number 1, exactly

  pub short-means : (writing_of h e o out).answer ≡ Err (refusal SHORT_PART 0) → (sized h e o ≡ false) ⊎ (length out < 65536)
  unfolding writing
  short-means k = go ways
    where
      not_short : (q : Option Placement) → (writing q out).answer ≡ Err (refusal SHORT_PART 0) → ⊥
      not_short none a =
          let y : refusal NOT_READ 0 ≡ refusal SHORT_PART 0 = cc in
          let z : NOT_READ ≡ SHORT_PART = ap (λ w. fault_number w.fault) y in
          omega arith
      not_short (some p) a = let z : ◌≡◌ {A = ℕ} 0 1 = cc in omega arith

      go : Ways → (sized h e o ≡ false) ⊎ (length out < 65536)
      go (too_short q c) = c
      go (long-enough q t l) = absurd (not_short (placement_of h e o) (ap (λ z. z.answer) q ∙ k))

  pub short-when : (sized h e o ≡ false) ⊎ (length out < 65536) → writing_of h e o out ≡ writes (Err (refusal SHORT_PART 0)) out
  short-when c = go (true-or-false (sized h e o)) c
    where
      go : (sized h e o ≡ true) ⊎ (sized h e o ≡ false) → (sized h e o ≡ false) ⊎ (length out < 65536) → writing_of h e o out ≡ writes (Err (refusal SHORT_PART 0)) out
      go (inr f) c = sym (answer-short h e o out f)
      go (inl t) (inl f) = absurd (never t f)
      go (inl t) (inr l) = sym (answer-short-out h e o out t l)

-- ---- number 8: no text could have been read into these cells

-- the tables hold a placement exactly if reading its text leaves them as they are
pub held-readable : (h e o : List ℕ) (p : Placement) → sized h e o ≡ true → placement_of h e o ≡ some p → reading_of (text_of p) h e o ≡ reads (Ok tt) h e o
held-readable h e o p t k =
    let b = tables-back h e o p k in
    legal-read p b.legal h e o t ∙ (λ i. reads (Ok tt) (sym b.heads i) (sym b.entries i) (sym b.orders i))

pub readable-held : (s h e o : List ℕ) → reading_of s h e o ≡ reads (Ok tt) h e o → (p : Placement) × Holds p h e o
readable-held s h e o q =
    let w = taken_as s h e o (ap (λ z. z.answer) q) in
    let x = sym q ∙ w.is in
    (w.it, record { legal = w.legal; heads = ap (λ z. z.heads) x; entries = ap (λ z. z.entries) x; orders = ap (λ z. z.orders) x })

pub record NotReadable (h e o out : List ℕ) : Type 0 where
  pub sizes : sized h e o ≡ true
  pub room : 65536 ≤ length out
  pub none-fits : (s : List ℕ) → reading_of s h e o ≡ reads (Ok tt) h e o → ⊥

module _ (h e o out : List ℕ) where
  pub unread-means : (writing_of h e o out).answer ≡ Err (refusal NOT_READ 0) → NotReadable h e o out
  unfolding writing
  unread-means k = go (ways h e o out)
    where
      held_none : (q : Option Placement) → placement_of h e o ≡ q → (writing q out).answer ≡ Err (refusal NOT_READ 0) → q ≡ none
      held_none none d a = refl
      held_none (some p) d a = let z : ◌≡◌ {A = ℕ} 0 1 = cc in absurd (omega arith)

      go : Ways h e o out → NotReadable h e o out
      go (too_short q c) =
          let r : Err (refusal SHORT_PART 0) ≡ Err (refusal NOT_READ 0) = ap (λ z. z.answer) q ∙ k in
          let y : refusal SHORT_PART 0 ≡ refusal NOT_READ 0 = cc in
          let z : SHORT_PART ≡ NOT_READ = ap (λ w. fault_number w.fault) y in
          absurd (omega arith)
      go (long-enough q t l) =
          let n = held_none (placement_of h e o) refl (ap (λ z. z.answer) q ∙ k) in
          record { sizes = t; room = l; none-fits = λ s r. let y = readable-held s h e o r in (refused-exactly h e o).0 n y.0 y.1 }

  pub unread-when : NotReadable h e o out → writing_of h e o out ≡ writes (Err (refusal NOT_READ 0)) out
  unfolding writing
  unread-when u =
      let n = (refused-exactly h e o).1 (λ p k. u.none-fits (text_of p) (held-readable h e o p u.sizes (decoded p k))) in
      sym (answer-tables h e o out u.sizes u.room) ∙ ap (λ q. writing q out) n
    where
      decoded : (p : Placement) → Holds p h e o → placement_of h e o ≡ some p
      decoded p k = held-decodes h e o p k

-- ---- there and back

-- a text that is taken, written again from the tables that it was read into, is the same bytes
pub read-then-written : (s h e o out : List ℕ) → (reading_of s h e o).answer ≡ Ok tt → 65536 ≤ length out
    → writing_of (reading_of s h e o).heads (reading_of s h e o).entries (reading_of s h e o).orders out ≡ writes (Ok (length s)) (laid s out)
unfolding writing
read-then-written s h e o out k l =
    let w = taken_as s h e o k in
    sym (answer-tables _ _ _ out (taken-sized w) l) ∙ ap (λ q. writing q out) w.holds ∙ ap (λ z. writes (Ok (length z)) (laid z out)) w.text

-- what is written is read back into the same cells
pub written-then-read : (h e o out : List ℕ) (k : ℕ) → (writing_of h e o out).answer ≡ Ok k
    → reading_of (take k (writing_of h e o out).out) h e o ≡ reads (Ok tt) h e o
unfolding writing laid
written-then-read h e o out k a = go (ways h e o out)
  where
    back : (q : Option Placement) → placement_of h e o ≡ q → sized h e o ≡ true → (writing q out).answer ≡ Ok k
        → reading_of (take k (writing q out).out) h e o ≡ reads (Ok tt) h e o
    back none d t b = let z : ◌≡◌ {A = ℕ} 0 1 = cc in absurd (omega arith)
    back (some p) d t b =
        let n : length (text_of p) ≡ k = cc in
        ap (λ z. reading_of z h e o) (ap (λ j. take j (laid (text_of p) out)) (sym n) ∙ take-append_seam (text_of p) _) ∙ held-readable h e o p t d

    go : Ways h e o out → reading_of (take k (writing_of h e o out).out) h e o ≡ reads (Ok tt) h e o
    go (too_short q c) =
        let r : Err (refusal SHORT_PART 0) ≡ Ok k = ap (λ z. z.answer) q ∙ a in
        let z : ◌≡◌ {A = ℕ} 0 1 = cc in
        absurd (omega arith)
    go (long-enough q t l) = ap (λ z. reading_of (take k z.out) h e o) (sym q) ∙ back (placement_of h e o) refl t (ap (λ z. z.answer) q ∙ a)
