-- Each refusal of a text has a number of 3 to 6, whatever is read.
-- Assumes nothing.
use Prim.Native.Nat.{ℕ, zero, suc, ◌+◌, ◌≤◌}
use mathlib.Core.Path.{◌≡◌, refl}
use mathlib.Core.Logic.{◌⊎◌, inl, inr}
use mathlib.Core.Bool.{Bool, true, false}
use mathlib.Core.Option.{Option, none, some}
use mathlib.Core.List.{List, [], ◌∷◌, ◌++◌}
use native.Mathlib.Omega.{arith}
use lib.Dec.{eqb, leb}
use Rattle.meaning.specs.Placement.{Kind, Order, size, depot_size}
use Rattle.meaning.proofs.Booleans.{true-or-false}
use Rattle.fields.specs.Bytes.{TAB, LF, word_of, rest_of, same}
use Rattle.fields.specs.Number.{number_of}
use Rattle.fields.specs.Reader.{Step, got, refusal, Reader, next, unless, on_line, line, first, field, line_end, keyword, at_end, formed, figure, number, running, numbered, lines}
use Rattle.placement_text.specs.Words.{word_?}
use Rattle.placement_text.specs.Reader.{or_missing, received, entry, entries, listed, list, trainee_fields, trainee_line, depot_of, depot_fields, depot_line, Opening, order, ending, other, opening_of, order_fields, end_fields, finish, orders, Head, edition, sizes, head_fields, body, placement}

abbrev pub Range : {A : Type 0} → Step A → Type 0
Range (got a r) = Unit {0}
Range (refusal x l f) = (3 ≤ x) × (x ≤ 6)

after : {A B : Type 0} (t : Step A) (g : A → Reader B) → Range t → ((a : A) (r : List ℕ) → Range (g a r)) → Range (next t g)
after (got a r) g P Q = Q a r
after (refusal x l f) g P Q = P

on_line_lem : {A : Type 0} (l : ℕ) (t : Step A) → Range t → Range (on_line l t)
on_line_lem l (got a r) h = tt
on_line_lem l (refusal x k f) h = h

-- ---- the leaves

unless-range : (e k : ℕ) (b : Bool) (s : List ℕ) → 3 ≤ e → e ≤ 6 → Range (unless e k b s)
unfolding unless
unless-range e k true s x y = tt
unless-range e k false s x y = (x, y)

formed-range : {A : Type 0} (k : ℕ) (o : Option A) (s : List ℕ) → Range (formed k o s)
unfolding formed
formed-range k none s = (omega arith, omega arith)
formed-range k (some a) s = tt

field-range : (k : ℕ) (s : List ℕ) → Range (field k s)
unfolding field first
field-range k [] = (omega arith, omega arith)
field-range k (b ∷ s) = go (true-or-false (eqb b TAB))
  where
    go : (eqb b TAB ≡ true) ⊎ (eqb b TAB ≡ false) → Range (field k (b ∷ s))
    go (inl t) = rw (t, field) tt
    go (inr f) = rw (f, field) (omega arith, omega arith)

end-range : (k : ℕ) (s : List ℕ) → Range (line_end k s)
unfolding line_end
end-range k [] = (omega arith, omega arith)
end-range k (b ∷ s) = go (true-or-false (eqb b LF))
  where
    go : (eqb b LF ≡ true) ⊎ (eqb b LF ≡ false) → Range (line_end k (b ∷ s))
    go (inl t) = rw (t, line_end) tt
    go (inr f) = rw (f, line_end) (omega arith, omega arith)

keyword-range : (w s : List ℕ) → Range (keyword w s)
unfolding keyword first
keyword-range w s = unless-range 3 1 (same (word_of s) w) (rest_of s) (omega arith) (omega arith)

figure-range : (k : ℕ) (s : List ℕ) → Range (figure k s)
unfolding figure
figure-range k s = after (field k s) _ (field-range k s) (λ w r. formed-range k (number_of w) r)

number-range : (k lo hi : ℕ) (s : List ℕ) → Range (number k lo hi s)
unfolding number
number-range k lo hi s = after (figure k s) _ (figure-range k s) (λ v r. after (unless 4 k _ r) _ (unless-range 4 k _ r (omega arith) (omega arith)) (λ _ _. tt))

running-range : (k v : ℕ) (s : List ℕ) → Range (running k v s)
unfolding running
running-range k v s = after (figure k s) _ (figure-range k s) (λ u r. unless-range 3 k (eqb u v) r (omega arith) (omega arith))

numbered-range : (w : List ℕ) (i : ℕ) (s : List ℕ) → Range (numbered w i s)
unfolding numbered
numbered-range w i s = after (keyword w s) _ (keyword-range w s) (λ _ r. running-range 2 i r)

lines-range : {A : Type 0} (one : ℕ → ℕ → Reader A) (weight : A → ℕ) → ((i total : ℕ) (s : List ℕ) → Range (one i total s))
    → (c i total : ℕ) (xs : List A) (s : List ℕ) → Range (lines one weight c i total xs s)
unfolding lines
lines-range one weight each zero i total xs s = tt
lines-range one weight each (suc c) i total xs s =
    after (one i total s) _ (each i total s) (λ a r. lines-range one weight each c (i + 1) (total + weight a) (xs ++ a ∷ []) r)

-- ---- lists

missing-range : (k hi : ℕ) (w s : List ℕ) → Range (or_missing k hi w s)
unfolding or_missing
missing-range k hi w s = go (true-or-false (same w word_?))
  where
    go : (same w word_? ≡ true) ⊎ (same w word_? ≡ false) → Range (or_missing k hi w s)
    go (inl t) = rw (t, or_missing) tt
    go (inr f) =
        rw (f, or_missing)
        (after (formed k (number_of w) s) _ (formed-range k (number_of w) s)
        (λ v r. after (unless 4 k (leb v hi) r) _ (unless-range 4 k (leb v hi) r (omega arith) (omega arith)) (λ _ _. tt)))

received-range : (k hi : ℕ) (s : List ℕ) → Range (received k hi s)
unfolding received
received-range k hi s = after (field k s) _ (field-range k s) (λ w r. missing-range k hi w r)

entry-range : (k hi : ℕ) (seen s : List ℕ) → Range (entry k hi seen s)
unfolding entry
entry-range k hi seen s = after (number k 1 hi s) _ (number-range k 1 hi s) (λ e r. after (unless 5 k _ r) _ (unless-range 5 k _ r (omega arith) (omega arith)) (λ _ _. tt))

entries-range : (c k hi : ℕ) (seen s : List ℕ) → Range (entries c k hi seen s)
unfolding entries
entries-range zero k hi seen s = tt
entries-range (suc c) k hi seen s = after (entry k hi seen s) _ (entry-range k hi seen s) (λ e r. entries-range c (k + 1) hi (seen ++ e ∷ []) r)

listed-range : (k hi total : ℕ) (o : Option ℕ) (s : List ℕ) → Range (listed k hi total o s)
unfolding listed
listed-range k hi total none s = after (line_end (k + 1) s) _ (end-range (k + 1) s) (λ _ _. tt)
listed-range k hi total (some c) s =
    after (unless 6 k _ s) _ (unless-range 6 k _ s (omega arith) (omega arith))
    (λ _ r. after (entries c (k + 1) hi [] r) _ (entries-range c (k + 1) hi [] r) (λ es q. after (line_end (k + 1 + c) q) _ (end-range (k + 1 + c) q) (λ _ _. tt)))

list-range : (k hi total : ℕ) (s : List ℕ) → Range (list k hi total s)
unfolding list
list-range k hi total s = after (received k hi s) _ (received-range k hi s) (λ o r. listed-range k hi total o r)

trainee-range : (m i total : ℕ) (s : List ℕ) → Range (trainee_line m i total s)
unfolding trainee_line trainee_fields
trainee-range m i total s = on_line_lem (i + 1) (trainee_fields m i total s) (after (numbered _ i s) _ (numbered-range _ i s) (λ _ r. list-range 3 m total r))

depot-range : (n j total : ℕ) (s : List ℕ) → Range (depot_line n j total s)
unfolding depot_line depot_fields depot_of
depot-range n j total s =
    on_line_lem (n + j + 1) (depot_fields n j total s)
    (after (numbered _ j s) _ (numbered-range _ j s)
    (λ _ r. after (received 3 256 r) _ (received-range 3 256 r) (λ ps q. after (list 4 n total q) _ (list-range 4 n total q) (λ _ _. tt))))

-- ---- pairs, the end, and the whole

pair-range : (n m : ℕ) (b : Kind) (s : List ℕ) → Range (order_fields n m b s)
unfolding order_fields
pair-range n m b s =
    after (number 2 1 n s) _ (number-range 2 1 n s)
    (λ i r. after (number 3 1 m r) _ (number-range 3 1 m r) (λ j q. after (line_end 4 q) _ (end-range 4 q) (λ _ _. tt)))

nothing-range : (l : ℕ) (os : List Order) (r : List ℕ) → Range (next (at_end l r) (λ _ q. got os q))
unfolding at_end
nothing-range l os [] = tt
nothing-range l os (x ∷ r) = (omega arith, omega arith)

finish-range : (l : ℕ) (os : List Order) (s : List ℕ) → Range (finish l os s)
unfolding finish end_fields
finish-range l os s = after (line l end_fields s) _ (on_line_lem l (end_fields s) (end-range 2 s)) (λ _ r. nothing-range (l + 1) os r)

orders-range : (c n m l : ℕ) (os : List Order) (s : List ℕ) → Range (orders c n m l os s)
unfolding orders
orders-range zero n m l os s = go (opening_of (word_of s)) refl
  where
    go : (w : Opening) → opening_of (word_of s) ≡ w → Range (orders zero n m l os s)
    go (order k) q = rw (q, orders) (omega arith, omega arith)
    go ending q = rw (q, orders) (finish-range l os (rest_of s))
    go other q = rw (q, orders) (omega arith, omega arith)
orders-range (suc c) n m l os s = go (λ o r. orders-range c n m (l + 1) (os ++ o ∷ []) r) (opening_of (word_of s)) refl
  where
    go : ((o : Order) (r : List ℕ) → Range (orders c n m (l + 1) (os ++ o ∷ []) r)) → (w : Opening) → opening_of (word_of s) ≡ w → Range (orders (suc c) n m l os s)
    go more (order k) q = rw (q, orders) (after (line l (order_fields n m k) (rest_of s)) _ (on_line_lem l (order_fields n m k (rest_of s)) (pair-range n m k (rest_of s))) more)
    go more ending q = rw (q, orders) (finish-range l os (rest_of s))
    go more other q = rw (q, orders) (omega arith, omega arith)

head-range : (s : List ℕ) → Range (head_fields s)
unfolding head_fields edition sizes
head-range s =
    after (keyword _ s) _ (keyword-range _ s)
    (λ _ r. after (edition r) _ (after (running 2 1 r) _ (running-range 2 1 r) (λ _ _. tt))
    (λ e q. after (number 3 0 256 q) _ (number-range 3 0 256 q)
    (λ n u. after (number 4 0 64 u) _ (number-range 4 0 64 u) (λ m v. after (line_end 5 v) _ (end-range 5 v) (λ _ _. tt)))))

body-range : (h : Head) (s : List ℕ) → Range (body h s)
unfolding body
body-range h s =
    after (lines (trainee_line h.m) size h.n 1 0 [] s) _ (lines-range (trainee_line h.m) size (trainee-range h.m) h.n 1 0 [] s)
    (λ ts r. after (lines (depot_line h.n) depot_size h.m 1 0 [] r) _ (lines-range (depot_line h.n) depot_size (depot-range h.n) h.m 1 0 [] r)
    (λ ds q. after (orders 1024 h.n h.m (h.n + h.m + 2) [] q) _ (orders-range 1024 h.n h.m (h.n + h.m + 2) [] q) (λ _ _. tt)))

pub placement-range : (s : List ℕ) → Range (placement s)
unfolding placement
placement-range s = after (line 1 head_fields s) _ (on_line_lem 1 (head_fields s) (head-range s)) body-range
