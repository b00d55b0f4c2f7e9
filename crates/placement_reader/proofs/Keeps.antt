-- A refusal at a line depends on the lines down to that one alone: a text that agrees with it there is refused in the same way.
-- Assumes nothing.
use Prim.Native.Nat.{ℕ, zero, suc, ◌+◌, ◌≤◌}
use mathlib.Core.Path.{◌≡◌, refl, sym, ap, ◌∙◌, subst}
use mathlib.Core.List.{List, [], ◌∷◌, ◌++◌}
use native.Mathlib.Omega.{arith}
use native.Mathlib.Nat.{add-zero}
use lib.ListN.{length}
use borrow.Author.Tests.{le-leb}
use Rattle.meaning.specs.Placement.{Order, Placement, Legal, size, depot_size}
use Rattle.fields.specs.Bytes.{word_of, rest_of}
use Rattle.fields.specs.Reader.{Step, got, refusal, Reader, next, on_line, line, at_end, lines}
use Rattle.placement_text.specs.Writer.{text_of}
use Rattle.placement_text.specs.Reader.{trainee_fields, trainee_line, depot_fields, depot_line, Opening, order, ending, other, opening_of, order_fields, end_fields, finish, orders, Head, head_fields, body, placement, refused, outcome, read_text}
use Rattle.placement_text.proofs.Round.{read-there}
use Rattle.placement_text.proofs.Short.{text-short}
use Rattle.placement_reader.specs.Agree.{Agree, both_end, line_ends, same_byte}
use Rattle.placement_reader.proofs.Alike.{Alike, both-refused, both-got, word-alike, rest-alike, trainee-alike, depot-alike, pair-alike, last-alike, head-alike}

-- a reader of the lines from c on refuses none before c, and what it refuses at a line it refuses of every text that agrees so far
record Good {B : Type 0} (c : ℕ) (F : Reader B) : Type 0 where
  low : (s : List ℕ) (x l f : ℕ) → F s ≡ refusal x l f → c ≤ l
  keeps : (s s' : List ℕ) (j x l f : ℕ) → c + j ≡ l + 1 → Agree j s s' → F s ≡ refusal x l f → F s' ≡ refusal x l f

good-as : {B : Type 0} {c : ℕ} (F F' : Reader B) → ((s : List ℕ) → F s ≡ F' s) → Good c F → Good c F'
good-as F F' q G =
    record {
      low = λ s x l f e. G.low s x l f (q s ∙ e);
      keeps = λ s s' j x l f h w e. sym (q s') ∙ G.keeps s s' j x l f h w (q s ∙ e);
    }

good-at : {B : Type 0} {c c' : ℕ} {F : Reader B} → c ≡ c' → Good c F → Good c' F
good-at {B} {c} {c'} {F} e G = subst (λ z. Good z F) e G

good-refused : {B : Type 0} (x c f : ℕ) → Good {B = B} c (λ s. refusal x c f)
good-refused {B} x c f =
    record {
      low = λ s y l g e. same {y = y} {l = l} {g = g} e;
      keeps = λ s s' j y l g h w e. e;
    }
  where
    same : {y l g : ℕ} → ◌≡◌ {A = Step B} (refusal x c f) (refusal y l g) → c ≤ l
    same {y} {l} {g} e = let q : c ≡ l = cc in omega arith

-- ---- one line, and what follows

module _ {A B : Type 0} (c : ℕ) (p : Reader A) (g : A → Reader B) (local : (j : ℕ) (s s' : List ℕ) → Agree (suc j) s s' → Alike j (p s) (p s')) (G : (a : A) → Good (c + 1) (g a)) where
  line_low : (s : List ℕ) (x l f : ℕ) → next (on_line c (p s)) g ≡ refusal x l f → c ≤ l
  line_low s x l f e = go (p s) e
    where
      go : (t : Step A) → next (on_line c t) g ≡ refusal x l f → c ≤ l
      go (got a r) e = let q = (G a).low r x l f e in omega arith
      go (refusal y k h) e = let q : c ≡ l = cc in omega arith

  line-keeps : (s s' : List ℕ) (j x l f : ℕ) → c + j ≡ l + 1 → Agree j s s' → next (on_line c (p s)) g ≡ refusal x l f → next (on_line c (p s')) g ≡ refusal x l f
  line-keeps s s' zero x l f h w e = let q = line_low s x l f e in absurd (omega arith)
  line-keeps s s' (suc j) x l f h w e = go (local j s s' w) e
    where
      go : {t t' : Step A} → Alike j t t' → next (on_line c t) g ≡ refusal x l f → next (on_line c t') g ≡ refusal x l f
      go both-refused e = e
      go (both-got {a = a} {r = r} {r' = r'} q) e = (G a).keeps r r' j x l f (omega arith) q e

  good-line : Good c (λ s. next (on_line c (p s)) g)
  good-line = record { low = line_low; keeps = line-keeps }

pub next-next : {A B C : Type 0} (t : Step A) (f : A → Reader B) (g : B → Reader C) → next t (λ a r. next (f a r) g) ≡ next (next t f) g
next-next (got a r) f g = refl
next-next (refusal x l k) f g = refl

-- ---- lines of one kind

module _ {A B : Type 0} (at : ℕ → ℕ) (up : (i : ℕ) → at (i + 1) ≡ at i + 1) (p : ℕ → ℕ → Reader A) (weight : A → ℕ)
    (local : (i total j : ℕ) (s s' : List ℕ) → Agree (suc j) s s' → Alike j (p i total s) (p i total s')) (g : List A → Reader B) where
  good-lines : (n i total : ℕ) (xs : List A) → ((ys : List A) → Good (at (i + n)) (g ys)) → Good (at i) (λ s. next (lines (λ k t. line (at k) (p k t)) weight n i total xs s) g)
  unfolding lines
  good-lines zero i total xs G = subst (λ z. Good (at z) (g xs)) (add-zero i) (G xs)
  good-lines (suc n) i total xs G =
      let e : i + suc n ≡ i + 1 + n = omega arith in
      let more : (x : A) → Good (at i + 1) (λ r. next (lines (λ k t. line (at k) (p k t)) weight n (i + 1) (total + weight x) (xs ++ x ∷ []) r) g) =
      λ x. subst (λ z. Good z (λ r. next (lines (λ k t. line (at k) (p k t)) weight n (i + 1) (total + weight x) (xs ++ x ∷ []) r) g)) (up i)
      (good-lines n (i + 1) (total + weight x) (xs ++ x ∷ []) (λ ys. subst (λ z. Good (at z) (g ys)) e (G ys))) in
      good-as _ _ (λ s. next-next (on_line (at i) (p i total s)) _ g) (good-line (at i) (p i total) _ (local i total) more)

-- ---- pairs and the end

nothing-low : (c : ℕ) (os : List Order) (s : List ℕ) (x l f : ℕ) → next (at_end c s) (λ _ q. got os q) ≡ refusal x l f → c ≤ l
unfolding at_end
nothing-low c os [] x l f e = let z : ◌≡◌ {A = ℕ} 0 1 = cc in absurd (omega arith)
nothing-low c os (b ∷ r) x l f e = let q : c ≡ l = cc in omega arith

nothing-keeps : (c : ℕ) (os : List Order) (s s' : List ℕ) (j x l f : ℕ) → c + j ≡ l + 1 → Agree j s s'
    → next (at_end c s) (λ _ q. got os q) ≡ refusal x l f → next (at_end c s') (λ _ q. got os q) ≡ refusal x l f
unfolding at_end
nothing-keeps c os s s' zero x l f h w e = let q = nothing-low c os s x l f e in absurd (omega arith)
nothing-keeps c os _ _ (suc j) x l f h both_end e = e
nothing-keeps c os _ _ (suc j) x l f h (line_ends b w) e = e
nothing-keeps c os _ _ (suc j) x l f h (same_byte n w) e = e

good-finish : (l : ℕ) (os : List Order) → Good l (finish l os)
unfolding finish
good-finish l os =
    good-line l end_fields (λ _ r. next (at_end (l + 1) r) (λ _ q. got os q)) last-alike (λ _. record { low = nothing-low (l + 1) os; keeps = nothing-keeps (l + 1) os })

-- what follows the word that a line below the depots begins with
module _ (l : ℕ) (K : Opening → Reader (List Order)) (G : (w : Opening) → Good l (K w)) where
  opening-low : (s : List ℕ) (x k f : ℕ) → K (opening_of (word_of s)) (rest_of s) ≡ refusal x k f → l ≤ k
  opening-low s x k f e = (G (opening_of (word_of s))).low (rest_of s) x k f e

  opening-keeps : (s s' : List ℕ) (j x k f : ℕ) → l + j ≡ k + 1 → Agree j s s' → K (opening_of (word_of s)) (rest_of s) ≡ refusal x k f → K (opening_of (word_of s')) (rest_of s') ≡ refusal x k f
  opening-keeps s s' zero x k f h w e = let q = opening-low s x k f e in absurd (omega arith)
  opening-keeps s s' (suc j) x k f h w e =
      subst (λ v. K (opening_of v) (rest_of s') ≡ refusal x k f) (word-alike j s s' w)
      ((G (opening_of (word_of s))).keeps (rest_of s) (rest_of s') (suc j) x k f h (rest-alike j s s' w) e)

  good-opening : Good l (λ s. K (opening_of (word_of s)) (rest_of s))
  good-opening = record { low = opening-low; keeps = opening-keeps }

-- by the word, with at most c more pairs
unfoldable pub follow : ℕ → ℕ → ℕ → ℕ → List Order → Opening → Reader (List Order)
follow zero n m l os (order b) = λ s. refusal 6 l 1
follow (suc c) n m l os (order b) = λ s. next (on_line l (order_fields n m b s)) (λ o. orders c n m (l + 1) (os ++ o ∷ []))
follow c n m l os ending = finish l os
follow c n m l os other = λ s. refusal 3 l 1

pub follows : (c n m l : ℕ) (os : List Order) (s : List ℕ) → follow c n m l os (opening_of (word_of s)) (rest_of s) ≡ orders c n m l os s
unfolding orders follow
follows zero n m l os s = go (opening_of (word_of s)) refl
  where
    go : (w : Opening) → opening_of (word_of s) ≡ w → follow zero n m l os (opening_of (word_of s)) (rest_of s) ≡ orders zero n m l os s
    go (order b) q = rw (q, orders)
    go ending q = rw (q, orders)
    go other q = rw (q, orders)
follows (suc c) n m l os s = go (opening_of (word_of s)) refl
  where
    go : (w : Opening) → opening_of (word_of s) ≡ w → follow (suc c) n m l os (opening_of (word_of s)) (rest_of s) ≡ orders (suc c) n m l os s
    go (order b) q = rw (q, orders)
    go ending q = rw (q, orders)
    go other q = rw (q, orders)

good-orders : (c n m l : ℕ) (os : List Order) → Good l (orders c n m l os)
unfolding follow
good-orders zero n m l os = good-as _ _ (follows zero n m l os) (good-opening l (follow zero n m l os) each)
  where
    each : (w : Opening) → Good l (follow zero n m l os w)
    each (order b) = good-refused 6 l 1
    each ending = good-finish l os
    each other = good-refused 3 l 1
good-orders (suc c) n m l os = good-as _ _ (follows (suc c) n m l os) (good-opening l (follow (suc c) n m l os) (each (λ o. good-orders c n m (l + 1) (os ++ o ∷ []))))
  where
    each : ((o : Order) → Good (l + 1) (orders c n m (l + 1) (os ++ o ∷ []))) → (w : Opening) → Good l (follow (suc c) n m l os w)
    each more (order b) = good-line l (order_fields n m b) (λ o. orders c n m (l + 1) (os ++ o ∷ [])) (λ j s s' w. pair-alike j n m b s s' w) more
    each more ending = good-finish l os
    each more other = good-refused 3 l 1

-- ---- the whole text

good-value : {A B : Type 0} (c : ℕ) (F : Reader A) (k : A → B) → Good c F → Good c (λ s. next (F s) (λ a r. got (k a) r))
good-value {A} {B} c F k G =
    record {
      low = λ s x l f e. G.low s x l f (back (F s) x l f e);
      keeps = λ s s' j x l f h w e. there (F s') x l f (G.keeps s s' j x l f h w (back (F s) x l f e));
    }
  where
    back : (t : Step A) (x l f : ℕ) → next t (λ a r. got (k a) r) ≡ refusal x l f → t ≡ refusal x l f
    back (got a r) x l f e = let z : ◌≡◌ {A = ℕ} 0 1 = cc in absurd (omega arith)
    back (refusal y i g) x l f e = cc

    there : (t : Step A) (x l f : ℕ) → t ≡ refusal x l f → next t (λ a r. got (k a) r) ≡ refusal x l f
    there t x l f e = rw e

good-body : (h : Head) → Good 2 (body h)
unfolding body trainee_line depot_line
good-body h =
    let n : ℕ = h.n in
    let m : ℕ = h.m in
    let e : n + m + 2 ≡ n + (1 + m) + 1 = omega arith in
    let d : n + 1 + 1 ≡ 1 + n + 1 = omega arith in
    good-lines (λ i. i + 1) (λ i. refl) (trainee_fields m) size (λ i total j s s' w. trainee-alike j m i total s s' w) _ n 1 0 []
    (λ ts. good-at d
    (good-lines (λ i. n + i + 1) (λ i. omega arith) (depot_fields n) depot_size (λ i total j s s' w. depot-alike j n i total s s' w) _ m 1 0 []
    (λ ds. good-at e (good-value (n + m + 2) (orders 1024 n m (n + m + 2) []) _ (good-orders 1024 n m (n + m + 2) [])))))

good-placement : Good 1 placement
unfolding placement
good-placement = good-line 1 head_fields body head-alike good-body

-- ---- no legal text agrees down to the line refused

pub step_of : (s : List ℕ) {x l f : ℕ} → length s ≤ 65536 → read_text s ≡ refused x l f → placement s ≡ refusal x l f
unfolding read_text outcome
step_of s {x} {l} {f} h e = go (placement s) (rw (le-leb (length s) 65536 h, read_text) at e)
  where
    go : (t : Step Placement) → outcome t ≡ refused x l f → t ≡ refusal x l f
    go (got p r) e = let z : ◌≡◌ {A = ℕ} 0 1 = cc in absurd (omega arith)
    go (refusal a b c) e = cc

-- a text that agrees with a refused one on the lines down to the one refused is refused with the same number, line and field
pub refused-by-lines : (s s' : List ℕ) {x l f : ℕ} → length s ≤ 65536 → length s' ≤ 65536 → read_text s ≡ refused x l f → Agree l s s' → read_text s' ≡ refused x l f
unfolding read_text outcome
refused-by-lines s s' {x} {l} {f} h h' e w =
    let q = good-placement.keeps s s' l x l f (omega arith) w (step_of s h e) in
    rw (le-leb (length s') 65536 h', read_text) (ap outcome q)

-- so no legal text agrees with it there
pub no-legal-agrees : (s : List ℕ) {x l f : ℕ} → length s ≤ 65536 → read_text s ≡ refused x l f → (p : Placement) → Legal p → Agree l s (text_of p) → ⊥
no-legal-agrees s {x} {l} {f} h e p g w =
    let q = sym (read-there p g) ∙ refused-by-lines s (text_of p) h (text-short p g) e w in
    let z : ◌≡◌ {A = ℕ} 0 1 = cc in
    omega arith
