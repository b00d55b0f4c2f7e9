-- No refusal of a text gives a line past 2,000: 1,346 lines are the most that a legal text has.
-- Assumes nothing.
use Prim.Native.Nat.{ℕ, zero, suc, ◌+◌, ◌≤◌}
use mathlib.Core.Path.{◌≡◌, refl}
use mathlib.Core.Logic.{◌⊎◌, inl, inr}
use mathlib.Core.Bool.{true, false}
use mathlib.Core.List.{List, [], ◌∷◌, ◌++◌}
use native.Mathlib.Omega.{arith}
use lib.ListN.{length}
use lib.Dec.{leb}
use Rattle.meaning.specs.Placement.{Order, Placement, size, depot_size}
use Rattle.meaning.proofs.Booleans.{true-or-false}
use Rattle.fields.specs.Bytes.{word_of, rest_of}
use Rattle.fields.specs.Reader.{Step, got, refusal, Reader, next, on_line, line, at_end, lines}
use Rattle.fields.proofs.Steps.{on_line_lem}
use Rattle.placement_text.specs.Reader.{trainee_fields, trainee_line, depot_fields, depot_line, Opening, order, ending, other, opening_of, order_fields, end_fields, finish, orders, Head, head_fields, body, placement, refused, outcome, read_text}
use Rattle.placement_text.proofs.Round.{head-back}

-- a refusal here gives a line of at most b
abbrev AtMost : {A : Type 0} → ℕ → Step A → Type 0
AtMost b (got a r) = Unit {0}
AtMost b (refusal x l f) = l ≤ b

next-at-most : {A B : Type 0} (b : ℕ) (t : Step A) (g : A → Reader B) → AtMost b t → ((a : A) (r : List ℕ) → t ≡ got a r → AtMost b (g a r)) → AtMost b (next t g)
next-at-most b (got a r) g P Q = Q a r refl
next-at-most b (refusal x l f) g P Q = P

on-line-at-most : {A : Type 0} (b k : ℕ) (t : Step A) → k ≤ b → AtMost b (on_line k t)
on-line-at-most b k (got a r) h = tt
on-line-at-most b k (refusal x l f) h = h

module _ {A : Type 0} (b last : ℕ) (one : ℕ → ℕ → Reader A) (weight : A → ℕ) (each : (i total : ℕ) (s : List ℕ) → i ≤ last → AtMost b (one i total s)) where
  lines-at-most : (c i total : ℕ) (xs : List A) (s : List ℕ) → i + c ≤ last + 1 → AtMost b (lines one weight c i total xs s)
  unfolding lines
  lines-at-most zero i total xs s h = tt
  lines-at-most (suc c) i total xs s h =
      next-at-most b (one i total s) _ (each i total s (omega arith)) (λ a r q. lines-at-most c (i + 1) (total + weight a) (xs ++ a ∷ []) r (omega arith))

ended-at-most : (b l : ℕ) (os : List Order) (r : List ℕ) → l + 1 ≤ b → AtMost b (next (at_end (l + 1) r) (λ _ q. got os q))
unfolding at_end
ended-at-most b l os [] h = tt
ended-at-most b l os (x ∷ r) h = h

finish-at-most : (b l : ℕ) (os : List Order) (s : List ℕ) → l + 1 ≤ b → AtMost b (finish l os s)
unfolding finish
finish-at-most b l os s h =
    next-at-most b (line l end_fields s) _ (on-line-at-most b l (end_fields s) (omega arith)) (λ a r q. ended-at-most b l os r (omega arith))

orders-at-most : (b c n m l : ℕ) (os : List Order) (s : List ℕ) → l + c + 1 ≤ b → AtMost b (orders c n m l os s)
unfolding orders
orders-at-most b zero n m l os s h = go (opening_of (word_of s)) refl
  where
    go : (w : Opening) → opening_of (word_of s) ≡ w → AtMost b (orders zero n m l os s)
    go (order k) q = rw (q, orders) (omega arith)
    go ending q = rw (q, orders) (finish-at-most b l os (rest_of s) (omega arith))
    go other q = rw (q, orders) (omega arith)
orders-at-most b (suc c) n m l os s h = go (λ o r. orders-at-most b c n m (l + 1) (os ++ o ∷ []) r (omega arith)) (opening_of (word_of s)) refl
  where
    go : ((o : Order) (r : List ℕ) → AtMost b (orders c n m (l + 1) (os ++ o ∷ []) r)) → (w : Opening) → opening_of (word_of s) ≡ w → AtMost b (orders (suc c) n m l os s)
    go more (order k) q =
        rw (q, orders)
        (next-at-most b (line l (order_fields n m k) (rest_of s)) _ (on-line-at-most b l (order_fields n m k (rest_of s)) (omega arith)) (λ o r _. more o r))
    go more ending q = rw (q, orders) (finish-at-most b l os (rest_of s) (omega arith))
    go more other q = rw (q, orders) (omega arith)

trainee-at-most : (m i total : ℕ) (s : List ℕ) → i ≤ 256 → AtMost 2000 (trainee_line m i total s)
unfolding trainee_line
trainee-at-most m i total s h = on-line-at-most 2000 (i + 1) (trainee_fields m i total s) (omega arith)

depot-at-most : (n j total : ℕ) (s : List ℕ) → n ≤ 256 → j ≤ 64 → AtMost 2000 (depot_line n j total s)
unfolding depot_line
depot-at-most n j total s g h = on-line-at-most 2000 (n + j + 1) (depot_fields n j total s) (omega arith)

body-at-most : (h : Head) (s : List ℕ) → h.n ≤ 256 → h.m ≤ 64 → AtMost 2000 (body h s)
unfolding body
body-at-most h s few-n few-m =
    next-at-most 2000 (lines (trainee_line h.m) size h.n 1 0 [] s) _
    (lines-at-most 2000 256 (trainee_line h.m) size (trainee-at-most h.m) h.n 1 0 [] s (omega arith))
    (λ ts r _. next-at-most 2000 (lines (depot_line h.n) depot_size h.m 1 0 [] r) _
    (lines-at-most 2000 64 (depot_line h.n) depot_size (λ j total q k. depot-at-most h.n j total q few-n k) h.m 1 0 [] r (omega arith))
    (λ ds q _. next-at-most 2000 (orders 1024 h.n h.m (h.n + h.m + 2) [] q) _
    (orders-at-most 2000 1024 h.n h.m (h.n + h.m + 2) [] q (omega arith))
    (λ os z _. tt)))

placement-at-most : (s : List ℕ) → AtMost 2000 (placement s)
unfolding placement
placement-at-most s =
    next-at-most 2000 (line 1 head_fields s) body (on-line-at-most 2000 1 (head_fields s) (omega arith))
    (λ h r q. let b = head-back s (on_line_lem 1 (head_fields s) q) in body-at-most h r b.n b.m)

pub few-lines : (s : List ℕ) {x l f : ℕ} → read_text s ≡ refused x l f → l ≤ 2000
unfolding read_text outcome
few-lines s {x} {l} {f} h = go (true-or-false (leb (length s) 65536))
  where
    from : (t : Step Placement) → AtMost 2000 t → outcome t ≡ refused x l f → l ≤ 2000
    from (got p r) q e = let z : ◌≡◌ {A = ℕ} 0 1 = cc in absurd (omega arith)
    from (refusal a b c) q e = let z : b ≡ l = cc in omega arith

    go : (leb (length s) 65536 ≡ true) ⊎ (leb (length s) 65536 ≡ false) → l ≤ 2000
    go (inl t) = from (placement s) (placement-at-most s) (rw (t, read_text) at h)
    go (inr t) = let z : 0 ≡ l = cc (rw (t, read_text) at h) in omega arith
