-- The held and barred pairs and the end line, there and back.
-- Assumes nothing.
use Prim.Native.Nat.{ℕ, zero, suc, ◌+◌, ◌≤◌}
use mathlib.Core.Path.{◌≡◌, refl, sym, ap, ◌∙◌, subst}
use mathlib.Core.Logic.{◌⊎◌, inl, inr}
use mathlib.Core.Bool.{true, false}
use mathlib.Core.List.{List, [], ◌∷◌, ◌++◌, append_assoc, append-nil}
use native.Mathlib.Omega.{arith}
use lib.ListN.{length}
use Rattle.meaning.specs.Numbers.{◌&◌}
use Rattle.meaning.specs.Lists.{Each, each_none, each_more}
use Rattle.meaning.specs.Placement.{Kind, held, barred, Order, LegalOrder}
use Rattle.fields.specs.Bytes.{LF, stop?, word_of, rest_of, same, word_end}
use Rattle.fields.specs.Reader.{got, next, line, line_end, number, at_end}
use Rattle.fields.specs.Writer.{write_number}
use Rattle.meaning.proofs.Booleans.{true-or-false}
use Rattle.fields.proofs.Steps.{refusal-not-got, went, got-value, got-rest, on_line_lem}
use Rattle.fields.proofs.Words.{Word, stops, word-there, rest-there, word-rest, same-eq, end-there, end_back, number-stops, lf-stops, number-there, number-back}
use Rattle.placement_text.specs.Words.{word_F, word_X, letter}
use Rattle.placement_text.specs.Writer.{write_order, write_orders, write_end}
use Rattle.placement_text.specs.Reader.{Opening, order, ending, other, opening_of, order_fields, end_fields, finish, orders}

-- ---- the word

letter-word : (b : Kind) → Word (letter b)
unfolding letter stop?
letter-word held = each_more refl each_none
letter-word barred = each_more refl each_none

opening-letter : (b : Kind) → opening_of (letter b) ≡ order b
unfolding letter opening_of same ◌&◌
opening-letter held = refl
opening-letter barred = refl

-- what an opening says of the word
pub Says : List ℕ → Opening → Type 0
Says w (order b) = w ≡ letter b
Says w ending = w ≡ word_end
Says w other = Unit {0}

opening-says : (w : List ℕ) → Says w (opening_of w)
unfolding Says opening_of letter
opening-says w = go (true-or-false (same w word_F)) (true-or-false (same w word_X)) (true-or-false (same w word_end))
  where
    go : (same w word_F ≡ true) ⊎ (same w word_F ≡ false) → (same w word_X ≡ true) ⊎ (same w word_X ≡ false)
        → (same w word_end ≡ true) ⊎ (same w word_end ≡ false) → Says w (opening_of w)
    go (inl t) x y = rw (t, opening_of) (same-eq w word_F t)
    go (inr f) (inl t) y = rw (f, t, opening_of) (same-eq w word_X t)
    go (inr f) (inr g) (inl t) = rw (f, g, t, opening_of) (same-eq w word_end t)
    go (inr f) (inr g) (inr e) = rw (f, g, e, opening_of) tt

-- ---- one pair

order-there : (n m : ℕ) (o : Order) (r : List ℕ) → n ≤ 256 → m ≤ 64 → LegalOrder n m o
    → order_fields n m o.kind (write_number o.trainee ++ (write_number o.depot ++ LF ∷ r)) ≡ got o r
unfolding order_fields
order-there n m o r hn hm g =
    rw (
      number-there 2 1 n o.trainee (write_number o.depot ++ LF ∷ r) g.trainee.low g.trainee.high (omega arith) (number-stops o.depot (LF ∷ r)),
      number-there 3 1 m o.depot (LF ∷ r) g.depot.low g.depot.high (omega arith) (lf-stops r),
      end-there 4 r,
    )

pub record OneOrder (n m : ℕ) (b : Kind) (s : List ℕ) (o : Order) (r : List ℕ) : Type 0 where
  pub legal : LegalOrder n m o
  pub text : letter b ++ s ≡ write_order o ++ r

pub order-back : (n m : ℕ) (b : Kind) (s : List ℕ) {o : Order} {r : List ℕ} → order_fields n m b s ≡ got o r → OneOrder n m b s o r
unfolding order_fields write_order
order-back n m b s {o} {r} h =
    let a = went (number 2 1 n s) _ h in
    let c = went (number 3 1 m a.rest) _ a.on in
    let d = went (line_end 4 c.rest) _ c.on in
    let f = number-back 2 1 n s a.here in
    let g = number-back 3 1 m a.rest c.here in
    subst (λ x. OneOrder n m b s x r) (got-value d.on)
    (record {
      legal = record { trainee = record { low = f.low; high = f.high }; depot = record { low = g.low; high = g.high } };
      text =
          ap (λ x. letter b ++ x)
          (f.text ∙ ap (λ x. write_number a.value ++ x) (g.text ∙ ap (λ x. write_number c.value ++ x) (end_back 4 c.rest d.here ∙ ap (λ x. LF ∷ x) (got-rest d.on))))
          ∙ sym (simp append_assoc);
    })

-- ---- the end

end-fields : (s : List ℕ) {t : Unit {0}} {r : List ℕ} → end_fields s ≡ got t r → word_end ++ s ≡ write_end ++ r
unfolding end_fields
end-fields s h = ap (λ x. word_end ++ x) (end_back 2 s h)

finish-back : (l : ℕ) (os : List Order) (s : List ℕ) {out : List Order} {r : List ℕ} → finish l os s ≡ got out r → (word_end ++ s ≡ write_end) × (out ≡ os)
unfolding finish at_end
finish-back l os s {out} {r} h =
    let a = went (line l end_fields s) _ h in
    go a.rest (end-fields s (on_line_lem l (end_fields s) a.here)) a.on
  where
    go : (q : List ℕ) → word_end ++ s ≡ write_end ++ q → next (at_end (l + 1) q) (λ _ z. got os z) ≡ got out r → (word_end ++ s ≡ write_end) × (out ≡ os)
    go [] e g = (e ∙ append-nil write_end, sym (got-value g))
    go (x ∷ q) e g = absurd (refusal-not-got g)

-- ---- all of them

order-step : (c n m l : ℕ) (o : Order) (acc : List Order) (q : List ℕ) → n ≤ 256 → m ≤ 64 → LegalOrder n m o
    → orders (suc c) n m l acc (letter o.kind ++ (write_number o.trainee ++ (write_number o.depot ++ LF ∷ q))) ≡ orders c n m (l + 1) (acc ++ o ∷ []) q
unfolding orders
order-step c n m l o acc q hn hm p =
    let rest : List ℕ = write_number o.trainee ++ (write_number o.depot ++ LF ∷ q) in
    let t : stops rest ≡ true = number-stops o.trainee (write_number o.depot ++ LF ∷ q) in
    rw (word-there (letter o.kind) rest (letter-word o.kind) t, opening-letter o.kind, orders)
    (rw (rest-there (letter o.kind) rest (letter-word o.kind) t, order-there n m o q hn hm p))

end_step : (c n m l : ℕ) (acc : List Order) → orders c n m l acc write_end ≡ got acc []
unfolding orders opening_of same ◌&◌ word_of rest_of stop? finish end_fields line_end at_end
end_step zero n m l acc = refl
end_step (suc c) n m l acc = refl

pub orders-there : (n m c l : ℕ) (os acc : List Order) → n ≤ 256 → m ≤ 64 → length os ≤ c → Each (LegalOrder n m) os
    → orders c n m l acc (write_orders os ++ write_end) ≡ got (acc ++ os) []
unfolding write_orders write_order
orders-there n m c l _ acc hn hm h each_none = rw append-nil (end_step c n m l acc)
orders-there n m zero l _ acc hn hm h (each_more p ps) = absurd (omega arith)
orders-there n m (suc c) l _ acc hn hm h (each_more {x = o} {xs = os} p ps) =
    ap (orders (suc c) n m l acc) (simp append_assoc)
    ∙ order-step c n m l o acc (write_orders os ++ write_end) hn hm p
    ∙ orders-there n m c (l + 1) os (acc ++ o ∷ []) hn hm (omega arith) ps
    ∙ ap (λ x. got x []) (append_assoc acc (o ∷ []) os)

pub record Orders (c n m : ℕ) (acc : List Order) (s : List ℕ) (out : List Order) : Type 0 where
  pub os : List Order
  pub all : out ≡ acc ++ os
  pub count : length os ≤ c
  pub legal : Each (LegalOrder n m) os
  pub text : s ≡ write_orders os ++ write_end

orders-end : (c n m l : ℕ) (acc : List Order) (s : List ℕ) {out : List Order} {r : List ℕ} → word_of s ≡ word_end → finish l acc (rest_of s) ≡ got out r
    → Orders c n m acc s out
unfolding write_orders
orders-end c n m l acc s e h =
    let f = finish-back l acc (rest_of s) h in
    record {
      os = [];
      all = f.1 ∙ sym (append-nil acc);
      count = omega arith;
      legal = each_none;
      text = sym (word-rest s) ∙ ap (λ x. x ++ rest_of s) e ∙ f.0;
    }

pub orders-back : (c n m l : ℕ) (acc : List Order) (s : List ℕ) {out : List Order} {r : List ℕ} → orders c n m l acc s ≡ got out r → Orders c n m acc s out
unfolding orders write_orders Says
orders-back zero n m l acc s {out} {r} h = go (opening_of (word_of s)) refl (opening-says (word_of s))
  where
    go : (k : Opening) → opening_of (word_of s) ≡ k → Says (word_of s) (opening_of (word_of s)) → Orders zero n m acc s out
    go (order b) e w = absurd (refusal-not-got {A = List Order} (rw (e, orders) at h))
    go ending e w = orders-end zero n m l acc s (rw e at w) (rw (e, orders) at h)
    go other e w = absurd (refusal-not-got {A = List Order} (rw (e, orders) at h))
orders-back (suc c) n m l acc s {out} {r} h =
    go (opening_of (word_of s)) refl (opening-says (word_of s)) (λ acc q. orders-back c n m (l + 1) acc q {out = out} {r = r})
  where
    go : (k : Opening) → opening_of (word_of s) ≡ k → Says (word_of s) (opening_of (word_of s))
        → ((acc : List Order) (q : List ℕ) → orders c n m (l + 1) acc q ≡ got out r → Orders c n m acc q out)
        → Orders (suc c) n m acc s out
    go (order b) e w ih =
        let a = went (line l (order_fields n m b) (rest_of s)) _ (rw (e, orders) at h) in
        let o = order-back n m b (rest_of s) (on_line_lem l (order_fields n m b (rest_of s)) a.here) in
        let d = ih (acc ++ a.value ∷ []) a.rest a.on in
        let g = d.count in
        record {
          os = a.value ∷ d.os;
          all = d.all ∙ append_assoc acc (a.value ∷ []) d.os;
          count = omega arith;
          legal = each_more o.legal d.legal;
          text =
              sym (word-rest s) ∙ ap (λ x. x ++ rest_of s) (rw e at w) ∙ o.text ∙ ap (λ x. write_order a.value ++ x) d.text
              ∙ sym (append_assoc (write_order a.value) (write_orders d.os) write_end);
        }
    go ending e w ih = orders-end (suc c) n m l acc s (rw e at w) (rw (e, orders) at h)
    go other e w ih = absurd (refusal-not-got {A = List Order} (rw (e, orders) at h))
