-- Which numbers the reader gives back: 2 exactly for a text that is too long, else 3 or 4.
-- Assumes nothing.
use Prim.Native.Nat.{ℕ, zero, suc, ◌+◌, ◌≤◌, ◌<◌}
use mathlib.Core.Path.{◌≡◌, refl, subst}
use mathlib.Core.Logic.{◌⊎◌, inl, inr}
use mathlib.Core.Bool.{Bool, true, false}
use mathlib.Core.Option.{Option, none, some}
use mathlib.Core.List.{List, [], ◌∷◌, ◌++◌}
use native.Mathlib.Omega.{arith}
use lib.ListN.{length}
use lib.Dec.{leb, eqb}
use borrow.Author.Tests.{leb-true, leb-false}
use Rattle.meaning.specs.Numbers.{◌&◌}
use Rattle.meaning.specs.Solver.{WholeRuling}
use Rattle.meaning.proofs.Booleans.{true-or-false}
use Rattle.fields.specs.Bytes.{TAB, LF, word_of, rest_of, same, word_end}
use Rattle.fields.specs.Number.{number_of}
use Rattle.fields.specs.Reader.{Step, got, refusal, Reader, next, on_line, unless, first, field, line_end, keyword, at_end, formed, figure, number, running, lines}
use Rattle.ruling_text.specs.Words.{word_ruling, word_S, word_A, word_N}
use Rattle.rulings.specs.Legal.{DEPOTS, STRIKES}
use Rattle.ruling_text.specs.Reader.{pair, low_witness, high_witness, reason, strike_fields, strike_line, weightless, cell_fields, cell_line, none_fields, table, outcome, lines_of, end_fields, finish, conclusion, Head, sizes, head_fields, body, ruling, refused, answer, read_ruling}

-- wrong form, or a number outside its range
abbrev pub FormOrRange : ℕ → Type 0
FormOrRange e = (e ≡ 3) ⊎ (e ≡ 4)

-- a step that is refused at most so
abbrev Plain : {A : Type 0} → Step A → Type 0
Plain (got a r) = Unit {0}
Plain (refusal e l k) = FormOrRange e

-- ---- the combinators

then : {A B : Type 0} (t : Step A) (f : A → Reader B) → Plain t → ((a : A) (r : List ℕ) → Plain (f a r)) → Plain (next t f)
then (got a r) f h g = g a r
then (refusal e l k) f h g = h

on : {A : Type 0} (l : ℕ) (t : Step A) → Plain t → Plain (on_line l t)
on l (got a r) h = tt
on l (refusal e _ k) h = h

-- a test that decides between two steps
either : {A : Type 0} (b : Bool) (t u : Step A) → Plain t → Plain u → Plain {A = A} (elim b [ true ↦ t | false ↦ u ])
either true t u h g = h
either false t u h g = g

unless-plain : (e k : ℕ) (b : Bool) (s : List ℕ) → FormOrRange e → Plain (unless e k b s)
unfolding unless
unless-plain e k true s h = tt
unless-plain e k false s h = h

-- ---- the leaves

field_plain : (k : ℕ) (s : List ℕ) → Plain (field k s)
unfolding field first
field_plain k [] = inl refl
field_plain k (b ∷ s) = either (eqb b TAB) (got (word_of s) (rest_of s)) (refusal 3 0 k) tt (inl refl)

end-plain : (k : ℕ) (s : List ℕ) → Plain (line_end k s)
unfolding line_end
end-plain k [] = inl refl
end-plain k (b ∷ s) = either (eqb b LF) (got tt s) (refusal 3 0 k) tt (inl refl)

keyword-plain : (w s : List ℕ) → Plain (keyword w s)
unfolding keyword first
keyword-plain w s = unless-plain 3 1 (same (word_of s) w) (rest_of s) (inl refl)

at-end-plain : (l : ℕ) (s : List ℕ) → Plain (at_end l s)
unfolding at_end
at-end-plain l [] = tt
at-end-plain l (b ∷ s) = inl refl

formed-plain : (k : ℕ) (o : Option ℕ) (s : List ℕ) → Plain (formed k o s)
unfolding formed
formed-plain k (some a) s = tt
formed-plain k none s = inl refl

figure-plain : (k : ℕ) (s : List ℕ) → Plain (figure k s)
unfolding figure
figure-plain k s = then (field k s) _ (field_plain k s) (λ w r. formed-plain k (number_of w) r)

number-plain : (k lo hi : ℕ) (s : List ℕ) → Plain (number k lo hi s)
unfolding number
number-plain k lo hi s =
    then (figure k s) _ (figure-plain k s)
    (λ v r. then (unless 4 k (leb lo v & leb v hi) r) _ (unless-plain 4 k (leb lo v & leb v hi) r (inr refl)) (λ _ _. tt))

running-plain : (k v : ℕ) (s : List ℕ) → Plain (running k v s)
unfolding running
running-plain k v s = then (figure k s) _ (figure-plain k s) (λ u r. unless-plain 3 k (eqb u v) r (inl refl))

lines-plain : {A : Type 0} (one : ℕ → ℕ → Reader A) (weight : A → ℕ) → ((i total : ℕ) (s : List ℕ) → Plain (one i total s))
    → (c i total : ℕ) (xs : List A) (s : List ℕ) → Plain (lines one weight c i total xs s)
unfolding lines
lines-plain one weight h zero i total xs s = tt
lines-plain one weight h (suc c) i total xs s =
    then (one i total s) _ (h i total s) (λ x r. lines-plain one weight h c (i + 1) (total + weight x) (xs ++ x ∷ []) r)

-- ---- the lines

pair-plain : (k n : ℕ) (s : List ℕ) → Plain (pair k n s)
unfolding pair
pair-plain k n s = then (number k 1 n s) _ (number-plain k 1 n s) (λ i r. then (number (k + 1) 1 DEPOTS r) _ (number-plain (k + 1) 1 DEPOTS r) (λ _ _. tt))

reason-plain : (n : ℕ) (s : List ℕ) → Plain (reason n s)
unfolding reason
reason-plain n s =
    then (number 4 1 4 s) _ (number-plain 4 1 4 s)
    (λ k r. then (number 5 (low_witness k) (high_witness n k) r) _ (number-plain 5 (low_witness k) (high_witness n k) r) (λ _ _. tt))

strike-plain : (n k total : ℕ) (s : List ℕ) → Plain (strike_line n k total s)
unfolding strike_line strike_fields
strike-plain n k total s =
    on (k + 1) (strike_fields n s)
    (then (keyword word_S s) _ (keyword-plain word_S s)
    (λ _ r. then (pair 2 n r) _ (pair-plain 2 n r)
    (λ p t. then (reason n t) _ (reason-plain n t) (λ x u. then (line_end 6 u) _ (end-plain 6 u) (λ _ _. tt)))))

cell-plain : (c i total : ℕ) (s : List ℕ) → Plain (cell_line c i total s)
unfolding cell_line cell_fields
cell-plain c i total s =
    on (c + i + 1) (cell_fields i s)
    (then (keyword word_A s) _ (keyword-plain word_A s)
    (λ _ r. then (running 2 i r) _ (running-plain 2 i r)
    (λ _ t. then (number 3 0 DEPOTS t) _ (number-plain 3 0 DEPOTS t) (λ j u. then (line_end 4 u) _ (end-plain 4 u) (λ _ _. tt)))))

none-plain : (n : ℕ) (s : List ℕ) → Plain (none_fields n s)
unfolding none_fields
none-plain n s =
    then (number 2 1 2 s) _ (number-plain 2 1 2 s)
    (λ k r. then (pair 3 n r) _ (pair-plain 3 n r) (λ p t. then (line_end 5 t) _ (end-plain 5 t) (λ _ _. tt)))

table-plain : (n c : ℕ) (s : List ℕ) → Plain (table n c s)
unfolding table
table-plain n c s = then (lines (cell_line c) weightless n 1 0 [] s) _ (lines-plain (cell_line c) weightless (cell-plain c) n 1 0 [] s) (λ _ _. tt)

outcome-plain : (n c : ℕ) (s : List ℕ) → Plain (outcome n c s)
unfolding outcome
outcome-plain n c s =
    either (same (word_of s) word_N) (on_line (c + 2) (none_fields n (rest_of s))) (table n c s)
    (on (c + 2) (none_fields n (rest_of s)) (none-plain n (rest_of s)))
    (table-plain n c s)

finish-plain : (l : ℕ) (s : List ℕ) → Plain (finish l s)
unfolding finish end_fields
finish-plain l s =
    then (on_line l (end_fields s)) _
    (on l (end_fields s) (then (keyword word_end s) _ (keyword-plain word_end s) (λ _ r. end-plain 2 r)))
    (λ _ r. at-end-plain (l + 1) r)

conclusion-plain : (n c : ℕ) (s : List ℕ) → Plain (conclusion n c s)
unfolding conclusion
conclusion-plain n c s =
    then (outcome n c s) _ (outcome-plain n c s)
    (λ o r. then (finish (c + lines_of o + 2) r) _ (finish-plain (c + lines_of o + 2) r) (λ _ _. tt))

sizes-plain : (s : List ℕ) → Plain (sizes s)
unfolding sizes
sizes-plain s =
    then (number 3 0 256 s) _ (number-plain 3 0 256 s)
    (λ n r. then (number 4 0 STRIKES r) _ (number-plain 4 0 STRIKES r) (λ k t. then (line_end 5 t) _ (end-plain 5 t) (λ _ _. tt)))

head_plain : (s : List ℕ) → Plain (head_fields s)
unfolding head_fields
head_plain s =
    then (keyword word_ruling s) _ (keyword-plain word_ruling s) (λ _ r. then (running 2 1 r) _ (running-plain 2 1 r) (λ _ t. sizes-plain t))

body-plain : (h : Head) (s : List ℕ) → Plain (body h s)
unfolding body
body-plain h s =
    then (lines (strike_line h.n) weightless h.s 1 0 [] s) _ (lines-plain (strike_line h.n) weightless (strike-plain h.n) h.s 1 0 [] s)
    (λ xs r. then (conclusion h.n h.s r) _ (conclusion-plain h.n h.s r) (λ _ _. tt))

ruling-plain : (s : List ℕ) → Plain (ruling s)
unfolding ruling
ruling-plain s = then (on_line 1 (head_fields s)) body (on 1 (head_fields s) (head_plain s)) body-plain

-- ---- the whole text

answer-plain : (t : Step WholeRuling) {e l k : ℕ} → Plain t → answer t ≡ refused e l k → FormOrRange e
unfolding answer
answer-plain (got r rest) h g = let z : ◌≡◌ {A = ℕ} 0 1 = cc in absurd (omega arith)
answer-plain (refusal e' l' k') {e} h g = let x : e' ≡ e = cc in subst FormOrRange x h

-- 2 for a text longer than 65,536 bytes, else 3 or 4
pub ruling-refused : (s : List ℕ) {e l k : ℕ} → read_ruling s ≡ refused e l k → ((65536 < length s) × (e ≡ 2)) ⊎ ((length s ≤ 65536) × FormOrRange e)
unfolding read_ruling
ruling-refused s {e} {l} {k} h = go (true-or-false (leb (length s) 65536))
  where
    go : (leb (length s) 65536 ≡ true) ⊎ (leb (length s) 65536 ≡ false) → ((65536 < length s) × (e ≡ 2)) ⊎ ((length s ≤ 65536) × FormOrRange e)
    go (inl t) = inr (leb-true (length s) 65536 t, answer-plain (ruling s) (ruling-plain s) (rw (t, read_ruling) at h))
    go (inr f) = let g : refused 2 0 0 ≡ refused e l k = rw (f, read_ruling) at h in inl (leb-false (length s) 65536 f, cc)
