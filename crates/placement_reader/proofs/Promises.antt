-- What the answers of `read_placement` mean (document 01, "Numbers given back").
-- Assumes nothing.
use Prim.Native.Nat.{ℕ, ◌≤◌, ◌<◌}
use mathlib.Core.Path.{◌≡◌, refl, sym, ap, ◌∙◌, subst}
use mathlib.Core.Logic.{◌⊎◌, inl, inr, ⊎_elim}
use mathlib.Core.Bool.{true, false}
use mathlib.Core.Option.{some}
use mathlib.Core.List.{List}
use native.Mathlib.Omega.{arith}
use lib.ListN.{length, drop, length-append, length-drop}
use lib.Dec.{leb}
use borrow.Author.Tests.{le-leb}
use Rattle.meaning.specs.Numbers.{◌&◌}
use Rattle.meaning.proofs.Numbers.{order}
use Rattle.fields.specs.Reader.{Step, got, refusal as refusal-at}
use Rattle.meaning.specs.Answers.{SHORT_PART, LONG_TEXT, fault_number, refusal}
use Rattle.meaning.proofs.Answers.{number-high}
use Rattle.meaning.specs.Placement.{Placement, Legal}
use Rattle.meaning.specs.declared.Refusal.{Refusal}
use Rattle.std.specs.Prelude.{Result, Ok, Err}
use Rattle.meaning.proofs.Booleans.{true-or-false}
use Rattle.tables.specs.Cells.{head_cells, entry_cells, order_cells, laid}
use Rattle.tables.specs.Decode.{placement_of}
use Rattle.tables.specs.Answers.{sized}
use Rattle.tables.proofs.Round.{laid-there, cells_fit}
use Rattle.tables.proofs.Receipts.{sizes}
use Rattle.placement_text.specs.Writer.{text_of}
use Rattle.placement_text.specs.Reader.{placement, Read, taken, refused, outcome, read_text}
use Rattle.placement_text.proofs.Round.{read-there, read_back}
use Rattle.placement_text.proofs.Whole.{read-long}
use Rattle.placement_reader.specs.Reading.{Reads, reads, reading, reading_of}
use Rattle.placement_reader.proofs.Ways.{answer-short, answer-read, answer-long}
use Rattle.placement_reader.proofs.Refusals.{Range, placement-range}
use Rattle.placement_reader.specs.Agree.{Agree}
use Rattle.placement_reader.proofs.Keeps.{no-legal-agrees}
use Rattle.placement_reader.proofs.LineLaw.{LegalAbove, legal-above}

-- ---- a refusal changes no lent cell

reading-refused : (r : Read) (h e o : List ℕ) {x : Refusal} → (reading r h e o).answer ≡ Err x → reading r h e o ≡ reads (Err x) h e o
unfolding reading
reading-refused (taken p) h e o k = let z : ◌≡◌ {A = ℕ} 0 1 = cc in absurd (omega arith)
reading-refused (refused a b c) h e o k = ap (λ z. reads z h e o) k

pub refused-unchanged : (s h e o : List ℕ) {x : Refusal} → (reading_of s h e o).answer ≡ Err x → reading_of s h e o ≡ reads (Err x) h e o
refused-unchanged s h e o {x} k = go (true-or-false (sized h e o))
  where
    go : (sized h e o ≡ true) ⊎ (sized h e o ≡ false) → reading_of s h e o ≡ reads (Err x) h e o
    go (inl t) =
        let q = answer-read s h e o t in
        sym q ∙ reading-refused (read_text s) h e o (ap (λ z. z.answer) q ∙ k)
    go (inr f) =
        let q = answer-short s h e o f in
        sym q ∙ ap (λ z. reads z h e o) (ap (λ z. z.answer) q ∙ k)

-- ---- a legal placement's text is read into its cells

pub legal-read : (p : Placement) → Legal p → (h e o : List ℕ) → sized h e o ≡ true
    → reading_of (text_of p) h e o ≡ reads (Ok tt) (laid (head_cells p) h) (laid (entry_cells p) e) (laid (order_cells p) o)
unfolding reading
legal-read p g h e o t = sym (answer-read (text_of p) h e o t) ∙ ap (λ r. reading r h e o) (read-there p g)

-- ---- what is taken is the text of the placement that the tables then hold

pub record TakenAs (s h e o : List ℕ) (R : Reads) : Type 0 where
  pub it : Placement
  pub legal : Legal it
  pub text : text_of it ≡ s
  pub full-sized : sized h e o ≡ true
  pub is : R ≡ reads (Ok tt) (laid (head_cells it) h) (laid (entry_cells it) e) (laid (order_cells it) o)
  pub holds : placement_of R.heads R.entries R.orders ≡ some it

reading-taken : (s h e o : List ℕ) (r : Read) → read_text s ≡ r → sized h e o ≡ true → (reading r h e o).answer ≡ Ok tt → TakenAs s h e o (reading r h e o)
unfolding reading
reading-taken s h e o (taken p) q t k =
    let b = read_back s p q in
    record { it = p; legal = b.0; text = b.1; full-sized = t; is = refl; holds = laid-there p b.0 h e o }
reading-taken s h e o (refused a b c) q t k = let z : ◌≡◌ {A = ℕ} 0 1 = cc in absurd (omega arith)

pub taken_as : (s h e o : List ℕ) → (reading_of s h e o).answer ≡ Ok tt → TakenAs s h e o (reading_of s h e o)
taken_as s h e o k = go (true-or-false (sized h e o))
  where
    go : (sized h e o ≡ true) ⊎ (sized h e o ≡ false) → TakenAs s h e o (reading_of s h e o)
    go (inl t) =
        let q = answer-read s h e o t in
        subst (TakenAs s h e o) q (reading-taken s h e o (read_text s) refl t (ap (λ z. z.answer) q ∙ k))
    go (inr f) =
        let q = answer-short s h e o f in
        let r : Err (refusal SHORT_PART 0) ≡ Ok tt = ap (λ z. z.answer) q ∙ k in
        let z : ◌≡◌ {A = ℕ} 0 1 = cc in
        absurd (omega arith)

-- tables of the full sizes keep them
laid-length : (cells d : List ℕ) → length cells ≤ length d → length (laid cells d) ≡ length d
unfolding laid
laid-length cells d h = length-append cells (drop (length cells) d) ∙ omega (arith, length-drop (length cells) d)

sized-by-length : (h e o h' e' o' : List ℕ) → length h ≡ length h' → length e ≡ length e' → length o ≡ length o' → sized h e o ≡ sized h' e' o'
unfolding sized
sized-by-length h e o h' e' o' x y z = λ i. leb 707 (x i) & leb 8192 (y i) & leb 3073 (z i)

pub taken-sized : {s h e o : List ℕ} {R : Reads} → TakenAs s h e o R → sized R.heads R.entries R.orders ≡ true
taken-sized {s} {h} {e} {o} {R} w =
    let z = sizes h e o w.full-sized in
    let f = cells_fit w.it w.legal in
    let x = ap (λ q. length q.heads) w.is ∙ laid-length (head_cells w.it) h (omega (arith, z.heads, f.heads)) in
    let y = ap (λ q. length q.entries) w.is ∙ laid-length (entry_cells w.it) e (omega (arith, z.entries, f.entries)) in
    let u = ap (λ q. length q.orders) w.is ∙ laid-length (order_cells w.it) o (omega (arith, z.orders, f.orders)) in
    sized-by-length R.heads R.entries R.orders h e o x y u ∙ w.full-sized

-- ---- numbers 1 and 2, exactly

abbrev pub number_given : Result (Unit {0}) Refusal → ℕ
number_given (Ok _) = 0
number_given (Err r) = fault_number r.fault

-- a text of at most 65,536 bytes is taken or refused 3 to 6
text-number : (s : List ℕ) (h e o : List ℕ) → length s ≤ 65536 → (number_given (reading (read_text s) h e o).answer ≡ 0) ⊎ (3 ≤ number_given (reading (read_text s) h e o).answer)
unfolding reading read_text outcome
text-number s h e o l = rw (le-leb (length s) 65536 l, read_text) (go (placement s) (placement-range s))
  where
    go : (t : Step Placement) → Range t → (number_given (reading (outcome t) h e o).answer ≡ 0) ⊎ (3 ≤ number_given (reading (outcome t) h e o).answer)
    go (got p r) w = inl refl
    go (refusal-at x l f) w = inr (number-high x w.0)

long-number : (s : List ℕ) (h e o : List ℕ) → 65536 < length s → number_given (reading (read_text s) h e o).answer ≡ 2
unfolding reading
long-number s h e o l = ap (λ r. number_given (reading r h e o).answer) (read-long s l)

module _ (s h e o : List ℕ) where
  read_number : sized h e o ≡ true → number_given (reading_of s h e o).answer ≡ number_given (reading (read_text s) h e o).answer
  read_number t = ap (λ z. number_given z.answer) (sym (answer-read s h e o t))

  pub short-when : sized h e o ≡ false → reading_of s h e o ≡ reads (Err (refusal SHORT_PART 0)) h e o
  short-when f = sym (answer-short s h e o f)

  pub short-means : number_given (reading_of s h e o).answer ≡ 1 → sized h e o ≡ false
  short-means k = go (true-or-false (sized h e o)) (order (length s) 65536)
    where
      go : (sized h e o ≡ true) ⊎ (sized h e o ≡ false) → (length s ≤ 65536) ⊎ (65536 < length s) → sized h e o ≡ false
      go (inr f) l = f
      go (inl t) (inr l) = let z = read_number t ∙ long-number s h e o l in absurd (omega arith)
      go (inl t) (inl l) = let z = read_number t in absurd (⊎_elim (λ q. omega arith) (λ q. omega arith) (text-number s h e o l))

  pub long-when : sized h e o ≡ true → 65536 < length s → reading_of s h e o ≡ reads (Err (refusal LONG_TEXT 0)) h e o
  long-when t l = sym (answer-long s h e o t l)

  pub long-means : number_given (reading_of s h e o).answer ≡ 2 → (sized h e o ≡ true) × (65536 < length s)
  long-means k = go (true-or-false (sized h e o)) (order (length s) 65536)
    where
      go : (sized h e o ≡ true) ⊎ (sized h e o ≡ false) → (length s ≤ 65536) ⊎ (65536 < length s) → (sized h e o ≡ true) × (65536 < length s)
      go (inr f) l = let z = ap (λ q. number_given q.answer) (answer-short s h e o f) in absurd (omega arith)
      go (inl t) (inr l) = (t, l)
      go (inl t) (inl l) = let z = read_number t in absurd (⊎_elim (λ q. omega arith) (λ q. omega arith) (text-number s h e o l))

-- ---- numbers 3 to 6: the line law

pub record AtLine (s : List ℕ) (l : ℕ) : Type 0 where
  pub above : LegalAbove s l
  pub none-agrees : (p : Placement) → Legal p → Agree l s (text_of p) → ⊥

-- refused 3 to 6 at line l: some legal text agrees with this one on lines 1 to l - 1, and none does on lines 1 to l
pub line-law : (s h e o : List ℕ) (x l : ℕ) → 3 ≤ x → (reading_of s h e o).answer ≡ Err (refusal x l) → AtLine s l
unfolding reading
line-law s h e o x l high k = go (true-or-false (sized h e o)) (order (length s) 65536)
  where
    from : length s ≤ 65536 → (r : Read) → read_text s ≡ r → (reading r h e o).answer ≡ Err (refusal x l) → AtLine s l
    from w (taken p) d q = let z : ◌≡◌ {A = ℕ} 0 1 = cc in absurd (omega arith)
    from w (refused a b c) d q =
        let m : refusal a b ≡ refusal x l = cc in
        let z : b ≡ l = ap (λ v. v.line) m in
        subst (AtLine s) z (record { above = legal-above s w d; none-agrees = no-legal-agrees s w d })

    go : (sized h e o ≡ true) ⊎ (sized h e o ≡ false) → (length s ≤ 65536) ⊎ (65536 < length s) → AtLine s l
    go (inr f) w = let z = ap (λ v. number_given v.answer) (answer-short s h e o f) ∙ ap number_given k in absurd (omega (arith, number-high x high))
    go (inl t) (inr w) = let z = sym (read_number s h e o t ∙ long-number s h e o w) ∙ ap number_given k in absurd (omega (arith, number-high x high))
    go (inl t) (inl w) = from w (read_text s) refl (ap (λ v. v.answer) (answer-read s h e o t) ∙ k)
