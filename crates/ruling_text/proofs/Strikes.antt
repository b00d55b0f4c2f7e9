-- The lines of the strikes, there and back.
-- Assumes nothing.
use Prim.Native.Nat.{ℕ, zero, suc, ◌+◌, ◌≤◌}
use mathlib.Core.Path.{◌≡◌, refl, sym, ap, ◌∙◌, subst}
use mathlib.Core.Bool.{true}
use mathlib.Core.List.{List, [], ◌∷◌, ◌++◌, append_assoc}
use native.Mathlib.Omega.{arith}
use lib.Dec.{lit<}
use Rattle.meaning.specs.Numbers.{In}
use Rattle.meaning.specs.Lists.{each_none, each_more, weigh}
use Rattle.meaning.specs.Answers.{reason_number, reason_witness, strike_numbers}
use Rattle.meaning.specs.declared.Reason.{Reason}
use Rattle.meaning.specs.declared.Reason.TheVariants.{Barred, HeldElsewhere, PostsGone, Passed}
use Rattle.meaning.specs.declared.Strike.{Strike}
use Rattle.fields.specs.Bytes.{LF, stop?}
use Rattle.fields.specs.Reader.{got, line_end, keyword, number}
use Rattle.fields.specs.Writer.{write_number, write_numbers, write_line}
use Rattle.fields.proofs.Steps.{went, got-value, got-rest, on_line_lem}
use Rattle.fields.proofs.Words.{Word, stops, end-there, end_back, keyword-there, keyword-back, number-stops, lf-stops, number-there, number-back}
use Rattle.fields.proofs.Lines.{Line}
use Rattle.ruling_text.specs.Words.{word_S}
use Rattle.rulings.specs.Legal.{DEPOTS, LegalReason, legal_barred, legal_elsewhere, legal_gone, legal_passed, LegalStrike}
use Rattle.ruling_text.specs.Writer.{write_strike}
use Rattle.ruling_text.specs.Reader.{Pair, pair, low_witness, high_witness, reason_of, reason, strike_fields, strike_line, weightless}

pub weightless-sum : {A : Type 0} (xs : List A) → weigh weightless xs ≡ 0
unfolding weigh weightless
weightless-sum [] = refl
weightless-sum (x ∷ xs) = omega (arith, weightless-sum xs)

-- ---- a pair

pub pair-there : (k n i j : ℕ) (r : List ℕ) → n ≤ 256 → In n i → In DEPOTS j → stops r ≡ true
    → pair k n (write_number i ++ (write_number j ++ r)) ≡ got (record { trainee = i; depot = j }) r
unfolding pair
pair-there k n i j r hn hi hj t =
    rw (
      number-there k 1 n i (write_number j ++ r) hi.low hi.high (omega arith) (number-stops j r),
      number-there (k + 1) 1 DEPOTS j r hj.low hj.high (lit< tt) t,
    )

-- what a pair says that was read
pub record PairRead (n : ℕ) (s r : List ℕ) (p : Pair) : Type 0 where
  pub trainee : In n p.trainee
  pub depot : In DEPOTS p.depot
  pub text : s ≡ write_number p.trainee ++ (write_number p.depot ++ r)

pub pair-back : (k n : ℕ) (s : List ℕ) {p : Pair} {r : List ℕ} → pair k n s ≡ got p r → PairRead n s r p
unfolding pair
pair-back k n s {p} {r} h =
    let a = went (number k 1 n s) _ h in
    let b = went (number (k + 1) 1 DEPOTS a.rest) _ a.on in
    let i = number-back k 1 n s a.here in
    let j = number-back (k + 1) 1 DEPOTS a.rest b.here in
    subst (PairRead n s r) (got-value b.on)
    (record {
      trainee = record { low = i.low; high = i.high };
      depot = record { low = j.low; high = j.high };
      text = i.text ∙ ap (λ x. write_number a.value ++ x) (j.text ∙ ap (λ x. write_number b.value ++ x) (got-rest b.on));
    })

-- ---- reason and witness

-- k and w are the number and the witness of the legal reason r
pub record Coded (n k w : ℕ) (r : Reason) : Type 0 where
  pub legal : LegalReason n r
  pub number : reason_number r ≡ k
  pub witness : reason_witness r ≡ w

-- each witness in the range of its reason's number has a reason
pub reason-coded : (n k w : ℕ) → 1 ≤ k → k ≤ 4 → low_witness k ≤ w → w ≤ high_witness n k → Coded n k w (reason_of k w)
unfolding low_witness high_witness reason_of reason_number reason_witness
reason-coded n zero w l h lo hi = absurd (omega arith)
reason-coded n (suc zero) w l h lo hi = record { legal = legal_barred; number = refl; witness = omega arith }
reason-coded n (suc (suc zero)) w l h lo hi =
    record { legal = legal_elsewhere (record { low = lo; high = hi }); number = refl; witness = refl }
reason-coded n (suc (suc (suc zero))) w l h lo hi = record { legal = legal_gone; number = refl; witness = omega arith }
reason-coded n (suc (suc (suc (suc zero)))) w l h lo hi =
    record { legal = legal_passed (record { low = lo; high = hi }); number = refl; witness = refl }
reason-coded n (suc (suc (suc (suc (suc k))))) w l h lo hi = absurd (omega arith)

pub reason-again : (r : Reason) → reason_of (reason_number r) (reason_witness r) ≡ r
unfolding reason_of reason_number reason_witness
reason-again Barred = refl
reason-again (HeldElsewhere j) = refl
reason-again PostsGone = refl
reason-again (Passed k) = refl

-- what the numbers of a legal reason are
record Numbered (n : ℕ) (r : Reason) : Type 0 where
  low : 1 ≤ reason_number r
  high : reason_number r ≤ 4
  low-witness : low_witness (reason_number r) ≤ reason_witness r
  high-witness : reason_witness r ≤ high_witness n (reason_number r)
  small : n ≤ 256 → high_witness n (reason_number r) ≤ 256

numbered : {n : ℕ} {r : Reason} → LegalReason n r → Numbered n r
unfolding low_witness high_witness reason_number reason_witness
numbered legal_barred =
    record { low = omega arith; high = omega arith; low-witness = omega arith; high-witness = omega arith; small = λ h. omega arith }
numbered (legal_elsewhere g) =
    record { low = omega arith; high = omega arith; low-witness = g.low; high-witness = g.high; small = λ h. omega arith }
numbered legal_gone =
    record { low = omega arith; high = omega arith; low-witness = omega arith; high-witness = omega arith; small = λ h. omega arith }
numbered (legal_passed g) =
    record { low = omega arith; high = omega arith; low-witness = g.low; high-witness = g.high; small = λ h. h }

reason-there : (n : ℕ) (x : Reason) (r : List ℕ) → n ≤ 256 → LegalReason n x → stops r ≡ true
    → reason n (write_number (reason_number x) ++ (write_number (reason_witness x) ++ r)) ≡ got x r
unfolding reason
reason-there n x r hn g t =
    let b = numbered g in
    let k : ℕ = reason_number x in
    rw (
      number-there 4 1 4 k (write_number (reason_witness x) ++ r) b.low b.high (lit< tt) (number-stops (reason_witness x) r),
      number-there 5 (low_witness k) (high_witness n k) (reason_witness x) r b.low-witness b.high-witness (omega (arith, b.small hn)) t,
    )
    (ap (λ z. got z r) (reason-again x))

record ReasonRead (n : ℕ) (s r : List ℕ) (x : Reason) : Type 0 where
  legal : LegalReason n x
  text : s ≡ write_number (reason_number x) ++ (write_number (reason_witness x) ++ r)

reason-back : (n : ℕ) (s : List ℕ) {x : Reason} {r : List ℕ} → reason n s ≡ got x r → ReasonRead n s r x
unfolding reason
reason-back n s {x} {r} h =
    let a = went (number 4 1 4 s) _ h in
    let k : ℕ = a.value in
    let b = went (number 5 (low_witness k) (high_witness n k) a.rest) _ a.on in
    let f = number-back 4 1 4 s a.here in
    let g = number-back 5 (low_witness k) (high_witness n k) a.rest b.here in
    let c = reason-coded n k b.value f.low f.high g.low g.high in
    subst (ReasonRead n s r) (got-value b.on)
    (record {
      legal = c.legal;
      text =
          f.text
          ∙ ap (λ z. write_number k ++ z) (g.text ∙ ap (λ z. write_number b.value ++ z) (got-rest b.on))
          ∙ rw (c.number, c.witness);
    })

-- ---- a strike

S-word : Word word_S
unfolding stop?
S-word = each_more refl each_none

pub strike-there : (n : ℕ) → n ≤ 256 → (k total : ℕ) (x : Strike) (r : List ℕ) → k ≤ 4096 → LegalStrike n x → total + weightless x ≤ 0
    → strike_line n k total (write_strike k x ++ r) ≡ got x r
unfolding strike_line strike_fields write_strike write_line write_numbers strike_numbers
strike-there n hn k total x r hk g t =
    let r₁ : List ℕ = write_number (reason_number x.reason) ++ (write_number (reason_witness x.reason) ++ LF ∷ r) in
    let r₂ : List ℕ = write_number x.trainee ++ (write_number x.depot ++ r₁) in
    simp append_assoc
    (rw (
      keyword-there word_S r₂ S-word (number-stops x.trainee (write_number x.depot ++ r₁)),
      pair-there 2 n x.trainee x.depot r₁ hn g.trainee g.depot (number-stops (reason_number x.reason) (write_number (reason_witness x.reason) ++ LF ∷ r)),
      reason-there n x.reason (LF ∷ r) hn g.reason (lf-stops r),
      end-there 6 r,
    ))

abbrev pub StrikeLine : ℕ → ℕ → ℕ → List ℕ → Strike → List ℕ → Type 0
StrikeLine n = Line (strike_line n) weightless write_strike (LegalStrike n) 0

strike-fields : (n k total : ℕ) (s : List ℕ) {x : Strike} {r : List ℕ} → strike_fields n s ≡ got x r → StrikeLine n k total s x r
unfolding strike_fields write_strike write_line write_numbers strike_numbers weightless
strike-fields n k total s {x} {r} h =
    let a = went (keyword word_S s) _ h in
    let b = went (pair 2 n a.rest) _ a.on in
    let c = went (reason n b.rest) _ b.on in
    let d = went (line_end 6 c.rest) _ c.on in
    let p = pair-back 2 n a.rest b.here in
    let q = reason-back n b.rest c.here in
    subst (λ z. StrikeLine n k total s z r) (got-value d.on)
    (record {
      legal = record { trainee = p.trainee; depot = p.depot; reason = q.legal };
      fits = λ z. omega arith;
      text =
          keyword-back word_S s a.here
          ∙ ap (λ z. word_S ++ z)
          (p.text
          ∙ ap (λ z. write_number b.value.trainee ++ (write_number b.value.depot ++ z))
          (q.text
          ∙ ap (λ z. write_number (reason_number c.value) ++ (write_number (reason_witness c.value) ++ z))
          (end_back 6 c.rest d.here ∙ ap (λ z. LF ∷ z) (got-rest d.on))))
          ∙ sym (simp append_assoc);
    })

pub strike-back : (n k total : ℕ) (s : List ℕ) (x : Strike) (r : List ℕ) → strike_line n k total s ≡ got x r → StrikeLine n k total s x r
unfolding strike_line
strike-back n k total s x r h = strike-fields n k total s (on_line_lem (k + 1) (strike_fields n s) h)
