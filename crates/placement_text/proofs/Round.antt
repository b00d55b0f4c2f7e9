-- The placement text there and back: the reader takes exactly the writer's texts of the legal placements.
-- Assumes nothing.
use Prim.Native.Nat.{ℕ, ◌+◌, ◌≤◌}
use mathlib.Core.Path.{◌≡◌, refl, sym, ap, ap₂, ◌∙◌, subst}
use mathlib.Core.Logic.{◌⊎◌, inl, inr}
use mathlib.Core.Bool.{true, false}
use mathlib.Core.List.{List, [], ◌∷◌, ◌++◌, append_assoc}
use native.Mathlib.Omega.{arith}
use lib.ListN.{length}
use lib.Dec.{leb, lit<, lit≤}
use borrow.Author.Tests.{le-leb}
use Rattle.meaning.specs.Lists.{each_none, each_more}
use Rattle.meaning.specs.Placement.{Placement, LegalList, LegalDepot, Legal, size, depot_size}
use Rattle.fields.specs.Bytes.{LF, stop?}
use Rattle.fields.specs.Reader.{Step, got, refusal, line, line_end, keyword, number, running, lines}
use Rattle.fields.specs.Writer.{write_number, write_lines}
use Rattle.meaning.proofs.Booleans.{true-or-false}
use Rattle.fields.proofs.Steps.{went, got-value, got-rest, on_line_lem}
use Rattle.fields.proofs.Words.{Word, end-there, end_back, keyword-there, keyword-back, number-stops, lf-stops, number-there, number-back, running-there, running-back}
use Rattle.fields.proofs.Lines.{lines-there, lines-back}
use Rattle.placement_text.specs.Words.{word_placement}
use Rattle.placement_text.specs.Writer.{write_trainee, write_depot, write_orders, write_head, write_end, above_end, text_of}
use Rattle.placement_text.specs.Reader.{MOST, trainee_line, depot_line, orders, Head, edition, sizes, head_fields, body, placement, taken, outcome, read_text}
use Rattle.placement_text.proofs.Sides.{trainee-there, trainee-back, depot-there, depot-back}
use Rattle.placement_text.proofs.Pairs.{orders-there, orders-back}
use Rattle.placement_text.proofs.Short.{text-short}

-- ---- the first line

placement-word : Word word_placement
unfolding stop?
placement-word =
    each_more refl (each_more refl (each_more refl (each_more refl (each_more refl (each_more refl (each_more refl (each_more refl (each_more refl each_none))))))))

edition-there : (n m : ℕ) (r : List ℕ) → n ≤ 256 → m ≤ 64 → head_fields (write_head 1 n m ++ r) ≡ got (record { edition = 1; n = n; m = m }) r
unfolding head_fields edition sizes write_head
edition-there n m r hn hm =
    let r₁ : List ℕ = write_number m ++ LF ∷ r in
    let r₂ : List ℕ = write_number n ++ r₁ in
    let r₃ : List ℕ = write_number 1 ++ r₂ in
    simp append_assoc
    (rw (
      keyword-there word_placement r₃ placement-word (number-stops 1 r₂),
      running-there 2 1 r₂ (lit< tt) (number-stops n r₁),
      number-there 3 0 256 n r₁ (omega arith) hn (lit< tt) (number-stops m (LF ∷ r)),
      number-there 4 0 64 m (LF ∷ r) (omega arith) hm (lit< tt) (lf-stops r),
      end-there 5 r,
    ))

head-there : (e n m : ℕ) (r : List ℕ) → e ≡ 1 → n ≤ 256 → m ≤ 64 → head_fields (write_head e n m ++ r) ≡ got (record { edition = e; n = n; m = m }) r
head-there e n m r he hn hm =
    subst (λ x. head_fields (write_head x n m ++ r) ≡ got (record { edition = x; n = n; m = m }) r) (sym he) (edition-there n m r hn hm)

pub record HeadRead (s r : List ℕ) (h : Head) : Type 0 where
  pub edition : h.edition ≡ 1
  pub n : h.n ≤ 256
  pub m : h.m ≤ 64
  pub text : s ≡ write_head h.edition h.n h.m ++ r

pub head-back : (s : List ℕ) {h : Head} {r : List ℕ} → head_fields s ≡ got h r → HeadRead s r h
unfolding head_fields edition sizes write_head
head-back s {h} {r} e =
    let a = went (keyword word_placement s) _ e in
    let b = went (edition a.rest) _ a.on in
    let b' = went (running 2 1 a.rest) _ b.here in
    let v : 1 ≡ b.value = got-value b'.on in
    let c = went (number 3 0 256 b.rest) _ b.on in
    let d = went (number 4 0 64 c.rest) _ c.on in
    let f = went (line_end 5 d.rest) _ d.on in
    let x = number-back 3 0 256 b.rest c.here in
    let y = number-back 4 0 64 c.rest d.here in
    subst (HeadRead s r) (got-value f.on)
    (record {
      edition = sym v;
      n = x.high;
      m = y.high;
      text =
          keyword-back word_placement s a.here
          ∙ ap (λ z. word_placement ++ z)
          (running-back 2 1 a.rest b'.here
          ∙ ap₂ (λ z w. write_number z ++ w) v
          (got-rest b'.on ∙ x.text ∙ ap (λ z. write_number c.value ++ z) (y.text ∙ ap (λ z. write_number d.value ++ z) (end_back 5 d.rest f.here ∙ ap (λ z. LF ∷ z) (got-rest f.on)))))
          ∙ sym (simp append_assoc);
    })

-- ---- all lines

pub placement-there : (p : Placement) → Legal p → placement (text_of p) ≡ got p []
unfolding placement body text_of above_end
placement-there p g =
    let n : ℕ = length p.trainees in
    let m : ℕ = length p.depots in
    let r₁ : List ℕ = write_orders p.orders ++ write_end in
    let r₂ : List ℕ = write_lines write_depot 1 p.depots ++ r₁ in
    let r₃ : List ℕ = write_lines write_trainee 1 p.trainees ++ r₂ in
    simp append_assoc
    (rw (
      head-there p.edition n m r₃ g.edition g.n g.m,
      lines-there (trainee_line m) size write_trainee (LegalList m) MOST 256 (trainee-there m g.m) 1 0 p.trainees [] r₂ (omega arith) g.trainees (omega arith),
      lines-there (depot_line n) depot_size write_depot (LegalDepot n) MOST 64 (depot-there n g.n) 1 0 p.depots [] r₁ (omega arith) g.depots (omega arith),
      orders-there n m 1024 (n + m + 2) p.orders [] g.n g.m g.few_orders g.orders,
    ))

pub record PlacementRead (s : List ℕ) (p : Placement) : Type 0 where
  pub legal : Legal p
  pub text : text_of p ≡ s

pub placement-back : (s : List ℕ) {p : Placement} {r : List ℕ} → placement s ≡ got p r → PlacementRead s p
unfolding placement body text_of above_end
placement-back s {p} {r} e =
    let a = went (line 1 head_fields s) body e in
    let h : Head = a.value in
    let hd = head-back s (on_line_lem 1 (head_fields s) a.here) in
    let b = went (lines (trainee_line h.m) size h.n 1 0 [] a.rest) _ a.on in
    let x = lines-back (trainee_line h.m) size write_trainee (LegalList h.m) MOST (trainee-back h.m) h.n 1 0 [] a.rest b.value b.rest b.here in
    let c = went (lines (depot_line h.n) depot_size h.m 1 0 [] b.rest) _ b.on in
    let y = lines-back (depot_line h.n) depot_size write_depot (LegalDepot h.n) MOST (depot-back h.n) h.m 1 0 [] b.rest c.value c.rest c.here in
    let d = went (orders 1024 h.n h.m (h.n + h.m + 2) [] c.rest) _ c.on in
    let z = orders-back 1024 h.n h.m (h.n + h.m + 2) [] c.rest d.here in
    let P : Placement = record { edition = h.edition; trainees = x.xs; depots = y.xs; orders = z.os } in
    let same-p : P ≡ p =
    (λ i. record { edition = h.edition; trainees = sym x.all i; depots = sym y.all i; orders = sym z.all i }) ∙ got-value d.on in
    subst (PlacementRead s) same-p
    (record {
      legal = record {
        edition = hd.edition;
        n = rw x.count hd.n;
        m = rw y.count hd.m;
        trainees = rw y.count x.legal;
        trainee_entries = omega (arith, x.fits (lit≤ tt));
        depots = rw x.count y.legal;
        depot_entries = omega (arith, y.fits (lit≤ tt));
        orders = rw (x.count, y.count) z.legal;
        few_orders = z.count;
      };
      text =
          sym
          (hd.text
          ∙ ap₂ (λ n m. write_head h.edition n m ++ a.rest) (sym x.count) (sym y.count)
          ∙ ap (λ w. write_head h.edition (length x.xs) (length y.xs) ++ w)
          (x.text ∙ ap (λ w. write_lines write_trainee 1 x.xs ++ w) (y.text ∙ ap (λ w. write_lines write_depot 1 y.xs ++ w) z.text))
          ∙ sym (simp append_assoc));
    })

-- ---- the reader takes exactly the texts of the legal placements

pub read-there : (p : Placement) → Legal p → read_text (text_of p) ≡ taken p
unfolding read_text outcome
read-there p g = rw (le-leb (length (text_of p)) 65536 (text-short p g), read_text) (ap outcome (placement-there p g))

pub read_back : (s : List ℕ) (p : Placement) → read_text s ≡ taken p → Legal p × (text_of p ≡ s)
unfolding read_text outcome
read_back s p h = go (true-or-false (leb (length s) 65536))
  where
    from : (t : Step Placement) → outcome t ≡ taken p → (r : List ℕ) × (t ≡ got p r)
    from (got q r) e = let v : q ≡ p = cc in (r, ap (λ x. got x r) v)
    from (refusal e l k) f = let z : ◌≡◌ {A = ℕ} 0 1 = cc in absurd (omega arith)

    go : (leb (length s) 65536 ≡ true) ⊎ (leb (length s) 65536 ≡ false) → Legal p × (text_of p ≡ s)
    go (inl t) = let q = from (placement s) (rw (t, read_text) at h) in let b = placement-back s q.1 in (b.legal, b.text)
    go (inr f) = let z : ◌≡◌ {A = ℕ} 0 1 = cc (rw (f, read_text) at h) in absurd (omega arith)
