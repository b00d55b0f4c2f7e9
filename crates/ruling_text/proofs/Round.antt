-- The ruling text there and back: the reader takes exactly the writer's texts of the legal rulings.
-- Assumes nothing.
use Prim.Native.Nat.{ℕ, ◌≤◌}
use mathlib.Core.Path.{◌≡◌, refl, sym, ap, ◌∙◌, subst}
use mathlib.Core.Logic.{◌⊎◌, inl, inr}
use mathlib.Core.Bool.{true, false}
use mathlib.Core.List.{List, [], ◌∷◌, ◌++◌, append_assoc}
use native.Mathlib.Omega.{arith}
use lib.ListN.{length}
use lib.Dec.{leb, lit<}
use borrow.Author.Tests.{le-leb}
use Rattle.meaning.specs.Lists.{each_none, each_more}
use Rattle.meaning.specs.Solver.{WholeRuling}
use Rattle.fields.specs.Bytes.{LF, stop?}
use Rattle.fields.specs.Reader.{Step, got, refusal, line, line_end, keyword, number, running, lines}
use Rattle.fields.specs.Writer.{write_number, write_lines, write_numbers, write_line}
use Rattle.meaning.proofs.Booleans.{true-or-false}
use Rattle.fields.proofs.Steps.{went, got-value, got-rest, on_line_lem}
use Rattle.fields.proofs.Words.{Word, end-there, end_back, keyword-there, keyword-back, number-stops, lf-stops, number-there, number-back, running-there, running-back}
use Rattle.fields.proofs.Lines.{lines-there, lines-back}
use Rattle.ruling_text.specs.Words.{word_ruling}
use Rattle.rulings.specs.Legal.{STRIKES, LegalStrike, LegalRuling}
use Rattle.ruling_text.specs.Writer.{write_strike, write_outcome, write_head, write_end, ruling_text}
use Rattle.ruling_text.specs.Reader.{strike_line, weightless, conclusion, Head, sizes, head_fields, body, ruling, taken, answer, read_ruling}
use Rattle.ruling_text.proofs.Strikes.{weightless-sum, strike-there, strike-back}
use Rattle.ruling_text.proofs.Outcomes.{conclusion-there, conclusion-back}
use Rattle.ruling_text.proofs.Short.{ruling-short}

-- ---- the first line

ruling-word : Word word_ruling
unfolding stop?
ruling-word = each_more refl (each_more refl (each_more refl (each_more refl (each_more refl (each_more refl each_none)))))

head-there : (n s : ℕ) (r : List ℕ) → n ≤ 256 → s ≤ STRIKES → head_fields (write_head n s ++ r) ≡ got (record { n = n; s = s }) r
unfolding head_fields sizes write_head write_line write_numbers
head-there n s r hn hs =
    let r₁ : List ℕ = write_number s ++ LF ∷ r in
    let r₂ : List ℕ = write_number n ++ r₁ in
    simp append_assoc
    (rw (
      keyword-there word_ruling (write_number 1 ++ r₂) ruling-word (number-stops 1 r₂),
      running-there 2 1 r₂ (lit< tt) (number-stops n r₁),
      number-there 3 0 256 n r₁ (omega arith) hn (lit< tt) (number-stops s (LF ∷ r)),
      number-there 4 0 STRIKES s (LF ∷ r) (omega arith) hs (lit< tt) (lf-stops r),
      end-there 5 r,
    ))

-- what the first line says that was read
pub record HeadRead (s r : List ℕ) (h : Head) : Type 0 where
  pub n : h.n ≤ 256
  pub few : h.s ≤ STRIKES
  pub text : s ≡ write_head h.n h.s ++ r

pub head-back : (s : List ℕ) {h : Head} {r : List ℕ} → head_fields s ≡ got h r → HeadRead s r h
unfolding head_fields sizes write_head write_line write_numbers
head-back s {h} {r} e =
    let a = went (keyword word_ruling s) _ e in
    let b = went (running 2 1 a.rest) _ a.on in
    let c = went (number 3 0 256 b.rest) _ b.on in
    let d = went (number 4 0 STRIKES c.rest) _ c.on in
    let f = went (line_end 5 d.rest) _ d.on in
    let x = number-back 3 0 256 b.rest c.here in
    let y = number-back 4 0 STRIKES c.rest d.here in
    subst (HeadRead s r) (got-value f.on)
    (record {
      n = x.high;
      few = y.high;
      text =
          keyword-back word_ruling s a.here
          ∙ ap (λ z. word_ruling ++ z)
          (running-back 2 1 a.rest b.here
          ∙ ap (λ z. write_number 1 ++ z)
          (x.text
          ∙ ap (λ z. write_number c.value ++ z)
          (y.text ∙ ap (λ z. write_number d.value ++ z) (end_back 5 d.rest f.here ∙ ap (λ z. LF ∷ z) (got-rest f.on)))))
          ∙ sym (simp append_assoc);
    })

-- ---- the whole

whole-there : (r : WholeRuling) → LegalRuling r → ruling (ruling_text r) ≡ got r []
unfolding ruling body ruling_text
whole-there r g =
    let n : ℕ = r.trainees in
    let s : ℕ = length r.strikes in
    let r₁ : List ℕ = write_outcome r.outcome ++ write_end in
    let r₂ : List ℕ = write_lines write_strike 1 r.strikes ++ r₁ in
    let few = g.few_strikes in
    simp append_assoc
    (rw (
      head-there n s r₂ g.n few,
      lines-there (strike_line n) weightless write_strike (LegalStrike n) 0 4096 (strike-there n g.n) 1 0 r.strikes [] r₁ (omega arith) g.strikes
          (omega (arith, weightless-sum r.strikes)),
      conclusion-there n s r.outcome g.n g.outcome,
    ))

record RulingRead (s : List ℕ) (r : WholeRuling) : Type 0 where
  legal : LegalRuling r
  text : ruling_text r ≡ s

whole_back : (s : List ℕ) {r : WholeRuling} {rest : List ℕ} → ruling s ≡ got r rest → RulingRead s r
unfolding ruling body ruling_text
whole_back s {r} {rest} e =
    let a = went (line 1 head_fields s) body e in
    let h : Head = a.value in
    let hd = head-back s (on_line_lem 1 (head_fields s) a.here) in
    let b = went (lines (strike_line h.n) weightless h.s 1 0 [] a.rest) _ a.on in
    let x = lines-back (strike_line h.n) weightless write_strike (LegalStrike h.n) 0 (strike-back h.n) h.s 1 0 [] a.rest b.value b.rest b.here in
    let c = went (conclusion h.n h.s b.rest) _ b.on in
    let y = conclusion-back h.n h.s b.rest c.here in
    let R : WholeRuling = record { trainees = h.n; strikes = x.xs; outcome = c.value } in
    let same-r : R ≡ r = (λ i. record { trainees = h.n; strikes = sym x.all i; outcome = c.value }) ∙ got-value c.on in
    subst (RulingRead s) same-r
    (record {
      legal = record { n = hd.n; strikes = x.legal; few_strikes = rw x.count hd.few; outcome = y.legal };
      text =
          sym
          (hd.text
          ∙ ap (λ k. write_head h.n k ++ a.rest) (sym x.count)
          ∙ ap (λ w. write_head h.n (length x.xs) ++ w)
          (x.text ∙ ap (λ w. write_lines write_strike 1 x.xs ++ w) y.text)
          ∙ sym (simp append_assoc));
    })

-- ---- the reader takes exactly the texts of the legal rulings

pub ruling-there : (r : WholeRuling) → LegalRuling r → read_ruling (ruling_text r) ≡ taken r
unfolding read_ruling answer
ruling-there r g = rw (le-leb (length (ruling_text r)) 65536 (ruling-short r g), read_ruling) (ap answer (whole-there r g))

pub ruling-back : (s : List ℕ) (r : WholeRuling) → read_ruling s ≡ taken r → LegalRuling r × (ruling_text r ≡ s)
unfolding read_ruling answer
ruling-back s r h = go (true-or-false (leb (length s) 65536))
  where
    from : (t : Step WholeRuling) → answer t ≡ taken r → (rest : List ℕ) × (t ≡ got r rest)
    from (got q rest) e = let v : q ≡ r = cc in (rest, ap (λ x. got x rest) v)
    from (refusal e l k) f = let z : ◌≡◌ {A = ℕ} 0 1 = cc in absurd (omega arith)

    go : (leb (length s) 65536 ≡ true) ⊎ (leb (length s) 65536 ≡ false) → LegalRuling r × (ruling_text r ≡ s)
    go (inl t) = let q = from (ruling s) (rw (t, read_ruling) at h) in let b = whole_back s q.1 in (b.legal, b.text)
    go (inr f) = let z : ◌≡◌ {A = ℕ} 0 1 = cc (rw (f, read_ruling) at h) in absurd (omega arith)
