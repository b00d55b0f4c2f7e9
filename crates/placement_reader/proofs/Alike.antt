-- What is read of a line depends on that line alone: on texts that agree on it, each reader gives the same.
-- Assumes nothing.
use Prim.Native.Nat.{ℕ, zero, suc, ◌+◌}
use mathlib.Core.Path.{◌≡◌, refl, ap, subst}
use mathlib.Core.Logic.{◌⊎◌, inl, inr}
use mathlib.Core.Bool.{Bool, true, false}
use mathlib.Core.Option.{Option, none, some}
use mathlib.Core.List.{List, [], ◌∷◌, ◌++◌}
use native.Mathlib.Omega.{arith}
use lib.Dec.{eqb, leb}
use borrow.Author.Tests.{eq-eqb, ne_eqb}
use Rattle.meaning.specs.Placement.{Kind}
use Rattle.meaning.proofs.Booleans.{true-or-false}
use Rattle.fields.specs.Bytes.{TAB, LF, stop?, word_of, rest_of, same}
use Rattle.fields.specs.Number.{number_of}
use Rattle.fields.specs.Reader.{Step, got, refusal, Reader, next, unless, first, field, line_end, keyword, formed, figure, number, running, numbered}
use Rattle.placement_text.specs.Words.{word_?}
use Rattle.placement_text.specs.Reader.{or_missing, received, entry, entries, listed, list, trainee_fields, depot_of, depot_fields, order_fields, end_fields, edition, sizes, head_fields}
use Rattle.placement_reader.specs.Agree.{Agree, both_end, line_ends, same_byte}

-- the same refusal, or the same value with texts left that agree on j lines
pub data Alike {A : Type 0} (j : ℕ) : Step A → Step A → Type 0 where
  both-refused : {x l f : ℕ} → Alike j (refusal x l f) (refusal x l f)
  both-got : {a : A} {r r' : List ℕ} → Agree j r r' → Alike j (got a r) (got a r')

after : {A B : Type 0} {i j : ℕ} {t t' : Step A} (g : A → Reader B) → Alike i t t' → ((a : A) (r r' : List ℕ) → Agree i r r' → Alike j (g a r) (g a r')) → Alike j (next t g) (next t' g)
after g both-refused Q = both-refused
after g (both-got {a = a} {r = r} {r' = r'} w) Q = Q a r r' w

unless-alike : (i e k : ℕ) (b : Bool) {s s' : List ℕ} → Agree i s s' → Alike i (unless e k b s) (unless e k b s')
unfolding unless
unless-alike i e k true w = both-got w
unless-alike i e k false w = both-refused

formed-alike : {A : Type 0} (i k : ℕ) (o : Option A) {s s' : List ℕ} → Agree i s s' → Alike i (formed k o s) (formed k o s')
unfolding formed
formed-alike i k none w = both-refused
formed-alike i k (some a) w = both-got w

-- ---- words

tab-stops : (b : ℕ) → b ≡ LF → stop? b ≡ true
unfolding stop?
tab-stops b e = rw e

module _ (j : ℕ) where
  pub word-alike : (s s' : List ℕ) → Agree (suc j) s s' → word_of s ≡ word_of s'
  unfolding word_of
  word-alike _ _ both_end = refl
  word-alike _ _ (line_ends {b = b} e w) = rw (tab-stops b e, word_of)
  word-alike _ _ (same_byte {b = b} {s = s} {s' = s'} n w) = go (word-alike s s' w) (true-or-false (stop? b))
    where
      go : word_of s ≡ word_of s' → (stop? b ≡ true) ⊎ (stop? b ≡ false) → word_of (b ∷ s) ≡ word_of (b ∷ s')
      go h (inl t) = rw (t, word_of)
      go h (inr f) = rw (f, word_of) (ap (λ z. b ∷ z) h)

  pub rest-alike : (s s' : List ℕ) → Agree (suc j) s s' → Agree (suc j) (rest_of s) (rest_of s')
  unfolding rest_of
  rest-alike _ _ both_end = both_end
  rest-alike _ _ (line_ends {b = b} e w) = rw (tab-stops b e, rest_of) (line_ends e w)
  rest-alike _ _ (same_byte {b = b} {s = s} {s' = s'} n w) = go (rest-alike s s' w) (true-or-false (stop? b))
    where
      go : Agree (suc j) (rest_of s) (rest_of s') → (stop? b ≡ true) ⊎ (stop? b ≡ false) → Agree (suc j) (rest_of (b ∷ s)) (rest_of (b ∷ s'))
      go h (inl t) = rw (t, rest_of) (same_byte n w)
      go h (inr f) = rw (f, rest_of) h

  first_alike : (s s' : List ℕ) → Agree (suc j) s s' → Alike (suc j) (first s) (first s')
  unfolding first
  first_alike s s' w = subst (λ z. Alike (suc j) (got (word_of s) (rest_of s)) (got z (rest_of s'))) (word-alike s s' w) (both-got (rest-alike s s' w))

  field_alike : (k : ℕ) (s s' : List ℕ) → Agree (suc j) s s' → Alike (suc j) (field k s) (field k s')
  unfolding field
  field_alike k _ _ both_end = both-refused
  field_alike k _ _ (line_ends {b = b} e w) = rw (ne_eqb b TAB (λ z. omega arith), field) both-refused
  field_alike k _ _ (same_byte {b = b} {s = s} {s' = s'} n w) = go (true-or-false (eqb b TAB))
    where
      go : (eqb b TAB ≡ true) ⊎ (eqb b TAB ≡ false) → Alike (suc j) (field k (b ∷ s)) (field k (b ∷ s'))
      go (inl t) = rw (t, field) (first_alike s s' w)
      go (inr f) = rw (f, field) both-refused

  end-alike : (k : ℕ) (s s' : List ℕ) → Agree (suc j) s s' → Alike j (line_end k s) (line_end k s')
  unfolding line_end
  end-alike k _ _ both_end = both-refused
  end-alike k _ _ (line_ends {b = b} e w) = rw (eq-eqb b LF e, line_end) (both-got w)
  end-alike k _ _ (same_byte {b = b} n w) = rw (ne_eqb b LF n, line_end) both-refused

  -- ---- numbers

  keyword-alike : (v s s' : List ℕ) → Agree (suc j) s s' → Alike (suc j) (keyword v s) (keyword v s')
  unfolding keyword
  keyword-alike v s s' w = after _ (first_alike s s' w) (λ u r r' q. unless-alike (suc j) 3 1 (same u v) q)

  figure-alike : (k : ℕ) (s s' : List ℕ) → Agree (suc j) s s' → Alike (suc j) (figure k s) (figure k s')
  unfolding figure
  figure-alike k s s' w = after _ (field_alike k s s' w) (λ u r r' q. formed-alike (suc j) k (number_of u) q)

  number-alike : (k lo hi : ℕ) (s s' : List ℕ) → Agree (suc j) s s' → Alike (suc j) (number k lo hi s) (number k lo hi s')
  unfolding number
  number-alike k lo hi s s' w = after _ (figure-alike k s s' w) (λ v r r' q. after _ (unless-alike (suc j) 4 k _ q) (λ _ u u' z. both-got z))

  running-alike : (k v : ℕ) (s s' : List ℕ) → Agree (suc j) s s' → Alike (suc j) (running k v s) (running k v s')
  unfolding running
  running-alike k v s s' w = after _ (figure-alike k s s' w) (λ u r r' q. unless-alike (suc j) 3 k (eqb u v) q)

  numbered-alike : (v : List ℕ) (i : ℕ) (s s' : List ℕ) → Agree (suc j) s s' → Alike (suc j) (numbered v i s) (numbered v i s')
  unfolding numbered
  numbered-alike v i s s' w = after _ (keyword-alike v s s' w) (λ _ r r' q. running-alike 2 i r r' q)

  -- ---- lists

  missing-alike : (k hi : ℕ) (v s s' : List ℕ) → Agree (suc j) s s' → Alike (suc j) (or_missing k hi v s) (or_missing k hi v s')
  unfolding or_missing
  missing-alike k hi v s s' w = go (true-or-false (same v word_?))
    where
      go : (same v word_? ≡ true) ⊎ (same v word_? ≡ false) → Alike (suc j) (or_missing k hi v s) (or_missing k hi v s')
      go (inl t) = rw (t, or_missing) (both-got w)
      go (inr f) =
          rw (f, or_missing)
          (after _ (formed-alike (suc j) k (number_of v) w) (λ u r r' q. after _ (unless-alike (suc j) 4 k (leb u hi) q) (λ _ p p' z. both-got z)))

  received-alike : (k hi : ℕ) (s s' : List ℕ) → Agree (suc j) s s' → Alike (suc j) (received k hi s) (received k hi s')
  unfolding received
  received-alike k hi s s' w = after _ (field_alike k s s' w) (λ v r r' q. missing-alike k hi v r r' q)

  entry-alike : (k hi : ℕ) (seen s s' : List ℕ) → Agree (suc j) s s' → Alike (suc j) (entry k hi seen s) (entry k hi seen s')
  unfolding entry
  entry-alike k hi seen s s' w = after _ (number-alike k 1 hi s s' w) (λ e r r' q. after _ (unless-alike (suc j) 5 k _ q) (λ _ u u' z. both-got z))

  entries-alike : (c k hi : ℕ) (seen s s' : List ℕ) → Agree (suc j) s s' → Alike (suc j) (entries c k hi seen s) (entries c k hi seen s')
  unfolding entries
  entries-alike zero k hi seen s s' w = both-got w
  entries-alike (suc c) k hi seen s s' w = after _ (entry-alike k hi seen s s' w) (λ e r r' q. entries-alike c (k + 1) hi (seen ++ e ∷ []) r r' q)

  listed-alike : (k hi total : ℕ) (o : Option ℕ) (s s' : List ℕ) → Agree (suc j) s s' → Alike j (listed k hi total o s) (listed k hi total o s')
  unfolding listed
  listed-alike k hi total none s s' w = after _ (end-alike (k + 1) s s' w) (λ _ r r' q. both-got q)
  listed-alike k hi total (some c) s s' w =
      after _ (unless-alike (suc j) 6 k _ w)
      (λ _ r r' q. after _ (entries-alike c (k + 1) hi [] r r' q) (λ es u u' z. after _ (end-alike (k + 1 + c) u u' z) (λ _ p p' y. both-got y)))

  list-alike : (k hi total : ℕ) (s s' : List ℕ) → Agree (suc j) s s' → Alike j (list k hi total s) (list k hi total s')
  unfolding list
  list-alike k hi total s s' w = after _ (received-alike k hi s s' w) (λ o r r' q. listed-alike k hi total o r r' q)

  -- ---- whole lines

  pub trainee-alike : (m i total : ℕ) (s s' : List ℕ) → Agree (suc j) s s' → Alike j (trainee_fields m i total s) (trainee_fields m i total s')
  unfolding trainee_fields
  trainee-alike m i total s s' w = after _ (numbered-alike _ i s s' w) (λ _ r r' q. list-alike 3 m total r r' q)

  pub depot-alike : (n i total : ℕ) (s s' : List ℕ) → Agree (suc j) s s' → Alike j (depot_fields n i total s) (depot_fields n i total s')
  unfolding depot_fields depot_of
  depot-alike n i total s s' w =
      after _ (numbered-alike _ i s s' w)
      (λ _ r r' q. after _ (received-alike 3 256 r r' q) (λ ps u u' z. after _ (list-alike 4 n total u u' z) (λ l p p' y. both-got y)))

  pub pair-alike : (n m : ℕ) (b : Kind) (s s' : List ℕ) → Agree (suc j) s s' → Alike j (order_fields n m b s) (order_fields n m b s')
  unfolding order_fields
  pair-alike n m b s s' w =
      after _ (number-alike 2 1 n s s' w) (λ i r r' q. after _ (number-alike 3 1 m r r' q) (λ d u u' z. after _ (end-alike 4 u u' z) (λ _ p p' y. both-got y)))

  pub last-alike : (s s' : List ℕ) → Agree (suc j) s s' → Alike j (end_fields s) (end_fields s')
  unfolding end_fields
  last-alike s s' w = end-alike 2 s s' w

  pub head-alike : (s s' : List ℕ) → Agree (suc j) s s' → Alike j (head_fields s) (head_fields s')
  unfolding head_fields edition sizes
  head-alike s s' w =
      after _ (keyword-alike _ s s' w)
      (λ _ r r' q. after _ (after _ (running-alike 2 1 r r' q) (λ _ a a' b. both-got b))
      (λ e u u' z. after _ (number-alike 3 0 256 u u' z)
      (λ n v v' y. after _ (number-alike 4 0 64 v v' y) (λ m p p' x. after _ (end-alike 5 p p' x) (λ _ a a' b. both-got b)))))
