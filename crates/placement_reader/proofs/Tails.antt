-- A line that is read is read to its byte 10: what is left is what stands behind the first one.
-- Assumes nothing.
use Prim.Native.Nat.{ℕ, zero, suc, ◌+◌}
use mathlib.Core.Path.{◌≡◌, refl, sym, ◌∙◌}
use mathlib.Core.Logic.{◌⊎◌, inl, inr}
use mathlib.Core.Bool.{Bool, true, false}
use mathlib.Core.Option.{Option, none, some}
use mathlib.Core.List.{List, [], ◌∷◌, ◌++◌}
use native.Mathlib.Omega.{arith}
use lib.Dec.{eqb, leb}
use borrow.Author.Tests.{eqb-true, ne_eqb}
use Rattle.meaning.specs.Placement.{Kind}
use Rattle.meaning.proofs.Booleans.{true-or-false}
use Rattle.fields.specs.Bytes.{TAB, LF, stop?, rest_of, same}
use Rattle.fields.specs.Number.{number_of}
use Rattle.fields.specs.Reader.{Step, got, refusal, Reader, next, unless, first, field, line_end, keyword, formed, figure, number, running, numbered}
use Rattle.placement_text.specs.Words.{word_?}
use Rattle.placement_text.specs.Reader.{or_missing, received, entry, entries, listed, list, trainee_fields, depot_of, depot_fields, order_fields, end_fields, edition, sizes, head_fields}

-- what stands behind the first byte 10
unfoldable pub behind : List ℕ → Option (List ℕ)
behind [] = none
behind (b ∷ s) = elim (eqb b LF) [ true ↦ some s | false ↦ behind s ]

-- within the line; and to its end
abbrev Within : {A : Type 0} → Option (List ℕ) → Step A → Type 0
Within o (got a r) = behind r ≡ o
Within o (refusal x l f) = Unit {0}

abbrev pub Ends : {A : Type 0} → Option (List ℕ) → Step A → Type 0
Ends o (got a r) = o ≡ some r
Ends o (refusal x l f) = Unit {0}

then-in : {A B : Type 0} (o : Option (List ℕ)) (t : Step A) (g : A → Reader B) → Within o t → ((a : A) (r : List ℕ) → behind r ≡ o → Within o (g a r)) → Within o (next t g)
then-in o (got a r) g P Q = Q a r P
then-in o (refusal x l f) g P Q = tt

then-ends : {A B : Type 0} (o : Option (List ℕ)) (t : Step A) (g : A → Reader B) → Within o t → ((a : A) (r : List ℕ) → behind r ≡ o → Ends o (g a r)) → Ends o (next t g)
then-ends o (got a r) g P Q = Q a r P
then-ends o (refusal x l f) g P Q = tt

end-then : {A B : Type 0} (o : Option (List ℕ)) (t : Step A) (k : A → B) → Ends o t → Ends o (next t (λ a r. got (k a) r))
end-then o (got a r) k P = P
end-then o (refusal x l f) k P = tt

unless-in : (o : Option (List ℕ)) (e k : ℕ) (b : Bool) (s : List ℕ) → behind s ≡ o → Within o (unless e k b s)
unfolding unless
unless-in o e k true s h = h
unless-in o e k false s h = tt

formed-in : {A : Type 0} (o : Option (List ℕ)) (k : ℕ) (v : Option A) (s : List ℕ) → behind s ≡ o → Within o (formed k v s)
unfolding formed
formed-in o k none s h = tt
formed-in o k (some a) s h = h

behind_more : (b : ℕ) (s : List ℕ) → (b ≡ LF → ⊥) → behind (b ∷ s) ≡ behind s
unfolding behind
behind_more b s n = rw (ne_eqb b LF n, behind)

pub not-stop : (b : ℕ) → stop? b ≡ false → b ≡ LF → ⊥
unfolding stop?
not-stop b f e = let z : true ≡ false = rw e at f in let y : ◌≡◌ {A = ℕ} 0 1 = cc in omega arith

pub rest_in : (s : List ℕ) → behind (rest_of s) ≡ behind s
unfolding rest_of
rest_in [] = refl
rest_in (b ∷ s) = go (rest_in s) (true-or-false (stop? b))
  where
    go : behind (rest_of s) ≡ behind s → (stop? b ≡ true) ⊎ (stop? b ≡ false) → behind (rest_of (b ∷ s)) ≡ behind (b ∷ s)
    go h (inl t) = rw (t, rest_of)
    go h (inr f) = rw (f, rest_of) (h ∙ sym (behind_more b s (not-stop b f)))

module _ (o : Option (List ℕ)) where
  first-in : (s : List ℕ) → behind s ≡ o → Within o (first s)
  unfolding first
  first-in s h = rest_in s ∙ h

  field_in : (k : ℕ) (s : List ℕ) → behind s ≡ o → Within o (field k s)
  unfolding field
  field_in k [] h = tt
  field_in k (b ∷ s) h = go (true-or-false (eqb b TAB))
    where
      go : (eqb b TAB ≡ true) ⊎ (eqb b TAB ≡ false) → Within o (field k (b ∷ s))
      go (inl t) = rw (t, field) (first-in s (sym (behind_more b s (λ e. let z = eqb-true b TAB t in omega arith)) ∙ h))
      go (inr f) = rw (f, field) tt

  end-ends : (k : ℕ) (s : List ℕ) → behind s ≡ o → Ends o (line_end k s)
  unfolding line_end behind
  end-ends k [] h = tt
  end-ends k (b ∷ s) h = go (true-or-false (eqb b LF))
    where
      go : (eqb b LF ≡ true) ⊎ (eqb b LF ≡ false) → Ends o (line_end k (b ∷ s))
      go (inl t) = rw (t, line_end) (sym h ∙ rw (t, behind))
      go (inr f) = rw (f, line_end) tt

  keyword-in : (v s : List ℕ) → behind s ≡ o → Within o (keyword v s)
  unfolding keyword
  keyword-in v s h = then-in o (first s) _ (first-in s h) (λ u r q. unless-in o 3 1 (same u v) r q)

  figure-in : (k : ℕ) (s : List ℕ) → behind s ≡ o → Within o (figure k s)
  unfolding figure
  figure-in k s h = then-in o (field k s) _ (field_in k s h) (λ u r q. formed-in o k (number_of u) r q)

  number_in : (k lo hi : ℕ) (s : List ℕ) → behind s ≡ o → Within o (number k lo hi s)
  unfolding number
  number_in k lo hi s h = then-in o (figure k s) _ (figure-in k s h) (λ v r q. then-in o (unless 4 k _ r) _ (unless-in o 4 k _ r q) (λ _ u z. z))

  running-in : (k v : ℕ) (s : List ℕ) → behind s ≡ o → Within o (running k v s)
  unfolding running
  running-in k v s h = then-in o (figure k s) _ (figure-in k s h) (λ u r q. unless-in o 3 k (eqb u v) r q)

  numbered-in : (v : List ℕ) (i : ℕ) (s : List ℕ) → behind s ≡ o → Within o (numbered v i s)
  unfolding numbered
  numbered-in v i s h = then-in o (keyword v s) _ (keyword-in v s h) (λ _ r q. running-in 2 i r q)

  missing-in : (k hi : ℕ) (v s : List ℕ) → behind s ≡ o → Within o (or_missing k hi v s)
  unfolding or_missing
  missing-in k hi v s h = go (true-or-false (same v word_?))
    where
      go : (same v word_? ≡ true) ⊎ (same v word_? ≡ false) → Within o (or_missing k hi v s)
      go (inl t) = rw (t, or_missing) h
      go (inr f) = rw (f, or_missing) (then-in o (formed k (number_of v) s) _ (formed-in o k (number_of v) s h) (λ u r q. then-in o (unless 4 k (leb u hi) r) _ (unless-in o 4 k (leb u hi) r q) (λ _ p z. z)))

  received-in : (k hi : ℕ) (s : List ℕ) → behind s ≡ o → Within o (received k hi s)
  unfolding received
  received-in k hi s h = then-in o (field k s) _ (field_in k s h) (λ v r q. missing-in k hi v r q)

  entry_in : (k hi : ℕ) (seen s : List ℕ) → behind s ≡ o → Within o (entry k hi seen s)
  unfolding entry
  entry_in k hi seen s h = then-in o (number k 1 hi s) _ (number_in k 1 hi s h) (λ e r q. then-in o (unless 5 k _ r) _ (unless-in o 5 k _ r q) (λ _ u z. z))

  entries-in : (c k hi : ℕ) (seen s : List ℕ) → behind s ≡ o → Within o (entries c k hi seen s)
  unfolding entries
  entries-in zero k hi seen s h = h
  entries-in (suc c) k hi seen s h = then-in o (entry k hi seen s) _ (entry_in k hi seen s h) (λ e r q. entries-in c (k + 1) hi (seen ++ e ∷ []) r q)

  listed-ends : (k hi total : ℕ) (v : Option ℕ) (s : List ℕ) → behind s ≡ o → Ends o (listed k hi total v s)
  unfolding listed
  listed-ends k hi total none s h = end-then o (line_end (k + 1) s) _ (end-ends (k + 1) s h)
  listed-ends k hi total (some c) s h =
      then-ends o (unless 6 k _ s) _ (unless-in o 6 k _ s h)
      (λ _ r q. then-ends o (entries c (k + 1) hi [] r) _ (entries-in c (k + 1) hi [] r q) (λ es u z. end-then o (line_end (k + 1 + c) u) _ (end-ends (k + 1 + c) u z)))

  list-ends : (k hi total : ℕ) (s : List ℕ) → behind s ≡ o → Ends o (list k hi total s)
  unfolding list
  list-ends k hi total s h = then-ends o (received k hi s) _ (received-in k hi s h) (λ v r q. listed-ends k hi total v r q)

  pub trainee-ends : (m i total : ℕ) (s : List ℕ) → behind s ≡ o → Ends o (trainee_fields m i total s)
  unfolding trainee_fields
  trainee-ends m i total s h = then-ends o (numbered _ i s) _ (numbered-in _ i s h) (λ _ r q. list-ends 3 m total r q)

  pub depot-ends : (n i total : ℕ) (s : List ℕ) → behind s ≡ o → Ends o (depot_fields n i total s)
  unfolding depot_fields depot_of
  depot-ends n i total s h =
      then-ends o (numbered _ i s) _ (numbered-in _ i s h)
      (λ _ r q. then-ends o (received 3 256 r) _ (received-in 3 256 r q) (λ ps u z. end-then o (list 4 n total u) _ (list-ends 4 n total u z)))

  pub pair_ends : (n m : ℕ) (b : Kind) (s : List ℕ) → behind s ≡ o → Ends o (order_fields n m b s)
  unfolding order_fields
  pair_ends n m b s h =
      then-ends o (number 2 1 n s) _ (number_in 2 1 n s h) (λ i r q. then-ends o (number 3 1 m r) _ (number_in 3 1 m r q) (λ d u z. end-then o (line_end 4 u) _ (end-ends 4 u z)))

  pub last-ends : (s : List ℕ) → behind s ≡ o → Ends o (end_fields s)
  unfolding end_fields
  last-ends s h = end-ends 2 s h

  pub head-ends : (s : List ℕ) → behind s ≡ o → Ends o (head_fields s)
  unfolding head_fields edition sizes
  head-ends s h =
      then-ends o (keyword _ s) _ (keyword-in _ s h)
      (λ _ r q. then-ends o (edition r) _ (then-in o (running 2 1 r) _ (running-in 2 1 r q) (λ _ a b. b))
      (λ e u z. then-ends o (number 3 0 256 u) _ (number_in 3 0 256 u z) (λ n v y. then-ends o (number 4 0 64 v) _ (number_in 4 0 64 v y) (λ m p x. end-then o (line_end 5 p) _ (end-ends 5 p x)))))
