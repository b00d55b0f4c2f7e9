-- Records whose strikes are allowed in turn: what they strike is in no respecting matching, they are no longer than there are mutual pairs,
-- and two that nothing can be added to have struck the same pairs (Lemma C).
-- Assumes nothing.
use Prim.Native.Nat.{ℕ, ◌+◌, ◌≤◌}
use mathlib.Core.Path.{◌≡◌, refl, sym, ap, ◌∙◌, subst, fun_ext}
use mathlib.Core.Logic.{◌⊎◌, inl, inr, ⊎_elim}
use mathlib.Core.Bool.{true, false, not}
use mathlib.Core.List.{List, [], ◌∷◌, ◌++◌, append_assoc, append-nil}
use native.Mathlib.Omega.{arith}
use native.Mathlib.Nat.{le_trans}
use lib.ListN.{length, length-append}
use lib.Dec.{eqb}
use borrow.Author.Tests.{leb-true, le-leb, eqb-true, eq-eqb, not-true}
use Rattle.meaning.specs.Numbers.{◌&◌, count}
use Rattle.meaning.specs.Market.{Market, Standing, Lawful, Table, mutual?, Respecting}
use Rattle.meaning.specs.Strikes.{Struck, nothing, above_struck, down_struck, ahead, fits, allowed, struck, AllowedRecord, start, more, AllowedFrom, end, next, Exhausted, weight, mutual_pairs}
use Rattle.meaning.proofs.Booleans.{true-or-false, never, iff, and_left, and_right, and_intro}
use Rattle.meaning.proofs.Numbers.{sum_mono, sum_less, count-mono, count_less}
use Rattle.meaning.proofs.Pairs.{mutual-is, above-use, down-use, above-intro, down-intro}
use Rattle.meaning.proofs.Sound.{Clear, strike-sound}
use Rattle.meaning.specs.declared.Reason.{Reason}
use Rattle.meaning.specs.declared.Reason.TheVariants.{Barred, HeldElsewhere, PostsGone, Passed}
use Rattle.meaning.specs.declared.Strike.{Strike}

-- ---- what one more strike strikes

pub struck-last : (S₀ : Struck) (rec : List Strike) (x : Strike) (i j : ℕ) → struck S₀ (rec ++ (x ∷ [])) i j ≡ true
    → (struck S₀ rec i j ≡ true) ⊎ ((x.trainee ≡ i) × (x.depot ≡ j))
unfolding struck
struck-last S₀ [] x i j h = go (true-or-false (eqb x.trainee i & eqb x.depot j))
  where
    go : ((eqb x.trainee i & eqb x.depot j) ≡ true) ⊎ ((eqb x.trainee i & eqb x.depot j) ≡ false)
        → (struck S₀ [] i j ≡ true) ⊎ ((x.trainee ≡ i) × (x.depot ≡ j))
    go (inl t) = inr (eqb-true _ _ (and_left _ _ t), eqb-true _ _ (and_right (eqb x.trainee i) _ t))
    go (inr u) = inl (rw (u, struck) at h)
struck-last S₀ (y ∷ ys) x i j h = go (true-or-false (eqb y.trainee i & eqb y.depot j)) (λ h'. struck-last S₀ ys x i j h')
  where
    go : ((eqb y.trainee i & eqb y.depot j) ≡ true) ⊎ ((eqb y.trainee i & eqb y.depot j) ≡ false)
        → (struck S₀ (ys ++ (x ∷ [])) i j ≡ true → (struck S₀ ys i j ≡ true) ⊎ ((x.trainee ≡ i) × (x.depot ≡ j)))
        → (struck S₀ (y ∷ ys) i j ≡ true) ⊎ ((x.trainee ≡ i) × (x.depot ≡ j))
    go (inl t) w = inl (rw (t, struck))
    go (inr u) w = rw (u, struck) (w (rw (u, struck) at h))

pub struck-keeps : (S₀ : Struck) (rec : List Strike) (x : Strike) (i j : ℕ) → struck S₀ rec i j ≡ true → struck S₀ (rec ++ (x ∷ [])) i j ≡ true
unfolding struck
struck-keeps S₀ [] x i j h = ⊎_elim
    (λ (t : (eqb x.trainee i & eqb x.depot j) ≡ true). rw (t, struck))
    (λ (u : (eqb x.trainee i & eqb x.depot j) ≡ false). rw (u, struck) h)
    (true-or-false (eqb x.trainee i & eqb x.depot j))
struck-keeps S₀ (y ∷ ys) x i j h = go (true-or-false (eqb y.trainee i & eqb y.depot j)) (λ h'. struck-keeps S₀ ys x i j h')
  where
    go : ((eqb y.trainee i & eqb y.depot j) ≡ true) ⊎ ((eqb y.trainee i & eqb y.depot j) ≡ false)
        → (struck S₀ ys i j ≡ true → struck S₀ (ys ++ (x ∷ [])) i j ≡ true) → struck S₀ (y ∷ ys ++ (x ∷ [])) i j ≡ true
    go (inl t) w = rw (t, struck)
    go (inr u) w = rw (u, struck) (w (rw (u, struck) at h))

pub struck-new : (S₀ : Struck) (rec : List Strike) (x : Strike) → struck S₀ (rec ++ (x ∷ [])) x.trainee x.depot ≡ true
unfolding struck
struck-new S₀ [] x = rw (and_intro (eq-eqb x.trainee x.trainee refl) (eq-eqb x.depot x.depot refl), struck)
struck-new S₀ (y ∷ ys) x = go (true-or-false (eqb y.trainee x.trainee & eqb y.depot x.depot)) (struck-new S₀ ys x)
  where
    go : ((eqb y.trainee x.trainee & eqb y.depot x.depot) ≡ true) ⊎ ((eqb y.trainee x.trainee & eqb y.depot x.depot) ≡ false)
        → struck S₀ (ys ++ (x ∷ [])) x.trainee x.depot ≡ true → struck S₀ (y ∷ ys ++ (x ∷ [])) x.trainee x.depot ≡ true
    go (inl t) w = rw (t, struck)
    go (inr u) w = rw (u, struck) w

pub record-clear : (K : Market) → (O : Standing) → Lawful K O → (S₀ : Struck) (M : Table) → Respecting K O M → Clear K S₀ M → (rec : List Strike) → AllowedRecord K O S₀ rec → Clear K (struck S₀ rec) M
unfolding struck
record-clear K O lawful S₀ M ok c₀ rec start i j r h e = c₀ i j r h e
record-clear K O lawful S₀ M ok c₀ rec (more {rec = old} x g a) i j r h e = ⊎_elim
    (λ t. record-clear K O lawful S₀ M ok c₀ old g i j r t e)
    (λ q. strike-sound K O lawful (struck S₀ old) M ok (λ a b c d f. record-clear K O lawful S₀ M ok c₀ old g a b c d f) x.trainee x.depot x.reason a
    (ap M q.0 ∙ e ∙ sym q.1))
    (struck-last S₀ old x i j h)

-- ---- what an allowed strike is

module _ (K : Market) (O : Standing) (S : Struck) (i j : ℕ) (r : Reason) (h : allowed K O S i j r ≡ true) where
  pub allowed-pair : mutual? K i j ≡ true
  unfolding allowed
  allowed-pair = and_left _ _ h

  pub allowed-new : S i j ≡ false
  unfolding allowed
  allowed-new = not-true _ (and_left _ _ (and_right (mutual? K i j) _ h))

  pub allowed-fits : fits K O S i j r ≡ true
  unfolding allowed
  allowed-fits = and_right (not (S i j)) _ (and_right (mutual? K i j) _ h)

pub record-pairs : (K : Market) (O : Standing) (S₀ : Struck) (p₀ : (i j : ℕ) → S₀ i j ≡ true → mutual? K i j ≡ true) (rec : List Strike) → AllowedRecord K O S₀ rec → (i j : ℕ) → struck S₀ rec i j ≡ true → mutual? K i j ≡ true
unfolding struck
record-pairs K O S₀ p₀ rec start i j h = p₀ i j h
record-pairs K O S₀ p₀ rec (more {rec = old} x g a) i j h = ⊎_elim
    (λ t. record-pairs K O S₀ p₀ old g i j t)
    (λ q. subst (λ y. mutual? K i y ≡ true) q.1 (subst (λ y. mutual? K y x.depot ≡ true) q.0 (allowed-pair K O (struck S₀ old) _ _ _ a)))
    (struck-last S₀ old x i j h)

-- ---- no more strikes than mutual pairs

record-weight : (K : Market) → (O : Standing) → Lawful K O → (S₀ : Struck) (rec : List Strike) → AllowedRecord K O S₀ rec → length rec + weight K S₀ ≤ weight K (struck S₀ rec)
unfolding weight struck
record-weight K O lawful S₀ rec start = omega arith
record-weight K O lawful S₀ rec (more {rec = old} x g a) =
    let p = mutual-is K x.trainee x.depot (allowed-pair K O (struck S₀ old) _ _ _ a) in
    let ri = lawful.ranged.trainee_in_range x.trainee x.depot p.ranks in
    let rj = lawful.ranged.depot_in_range x.trainee x.depot p.ranks in
    omega (arith, length-append old (x ∷ []), record-weight K O lawful S₀ old g, sum_less K.n (λ i. count K.m (λ j. struck S₀ old i j)) (λ i. count K.m (λ j. struck S₀ (old ++ (x ∷ [])) i j)) (λ i _. count-mono K.m _ _ (λ j _ t. struck-keeps S₀ old x i j t)) x.trainee ri (count_less K.m _ _ (λ j _ t. struck-keeps S₀ old x x.trainee j t) x.depot rj (allowed-new K O (struck S₀ old) _ _ _ a) (struck-new S₀ old x)))

pub record-length : (K : Market) → (O : Standing) → Lawful K O → (S₀ : Struck) (p₀ : (i j : ℕ) → S₀ i j ≡ true → mutual? K i j ≡ true) (rec : List Strike) → AllowedRecord K O S₀ rec → length rec + weight K S₀ ≤ mutual_pairs K
unfolding mutual_pairs weight
record-length K O lawful S₀ p₀ rec g =
    omega (arith, record-weight K O lawful S₀ rec g, sum_mono K.n (λ i. count K.m (λ j. struck S₀ rec i j)) (λ i. count K.m (λ j. mutual? K i j)) (λ i _. count-mono K.m _ _ (λ j _ t. record-pairs K O S₀ p₀ rec g i j t)))

-- ---- any order strikes the same pairs

module _ (K : Market) (O : Standing) (lawful : Lawful K O) (S S' : Struck) (sub : (i j : ℕ) → S i j ≡ true → S' i j ≡ true) where
  pub above-mono : (k j : ℕ) → above_struck K S k j ≡ true → above_struck K S' k j ≡ true
  above-mono k j h = above-intro K lawful.ranged S' k j (λ j' p l. sub k j' (above-use K lawful.ranged S k j j' h p l))

  pub down-mono : (k j : ℕ) → down_struck K S k j ≡ true → down_struck K S' k j ≡ true
  down-mono k j h = down-intro K lawful.ranged S' k j (λ j' p l. sub k j' (down-use K lawful.ranged S k j j' h p l))

  pub fits-mono : (i j : ℕ) (r : Reason) → fits K O S i j r ≡ true → fits K O S' i j r ≡ true
  unfolding fits
  fits-mono i j Barred h = h
  fits-mono i j (HeldElsewhere j') h = h
  fits-mono i j PostsGone h = le-leb _ _ (le_trans (leb-true _ _ h)
      (count-mono K.n (λ k. ahead K i j k & above_struck K S k j) (λ k. ahead K i j k & above_struck K S' k j)
      (λ k _ t. and_intro (and_left _ _ t) (above-mono k j (and_right (ahead K i j k) _ t)))))
  fits-mono i j (Passed k) h = and_intro (and_left _ _ h) (down-mono k j (and_right (ahead K i j k) _ h))

pub record-within : (K : Market) → (O : Standing) → Lawful K O → (S₀ S : Struck) → ((i j : ℕ) → S₀ i j ≡ true → S i j ≡ true) → Exhausted K O S → (rec : List Strike) → AllowedRecord K O S₀ rec
    → (i j : ℕ) → struck S₀ rec i j ≡ true → S i j ≡ true
unfolding struck Exhausted allowed
record-within K O lawful S₀ S s₀ done rec start i j h = s₀ i j h
record-within K O lawful S₀ S s₀ done rec (more {rec = old} x g a) i j h = ⊎_elim
    (λ t. record-within K O lawful S₀ S s₀ done old g i j t)
    (λ q. subst (λ y. S i y ≡ true) q.1 (subst (λ y. S y x.depot ≡ true) q.0 (⊎_elim
    (λ t. t)
    (λ u. absurd (never
    (and_intro (allowed-pair K O (struck S₀ old) _ _ _ a) (and_intro (ap not u)
    (fits-mono K O lawful (struck S₀ old) S (λ i j t. record-within K O lawful S₀ S s₀ done old g i j t) _ _ _ (allowed-fits K O (struck S₀ old) _ _ _ a))))
    (done x.trainee x.depot x.reason)))
    (true-or-false (S x.trainee x.depot)))))
    (struck-last S₀ old x i j h)

pub record-keeps : (K : Market) (O : Standing) (S₀ : Struck) (rec : List Strike) → AllowedRecord K O S₀ rec → (i j : ℕ) → S₀ i j ≡ true → struck S₀ rec i j ≡ true
unfolding struck
record-keeps K O S₀ rec start i j h = h
record-keeps K O S₀ rec (more {rec = old} x g a) i j h = struck-keeps S₀ old x i j (record-keeps K O S₀ old g i j h)

-- Lemma C: two allowed records after which nothing may be struck have struck the same set
pub same-struck : (K : Market) → (O : Standing) → Lawful K O → (S₀ : Struck) (r s : List Strike) → AllowedRecord K O S₀ r → AllowedRecord K O S₀ s
    → Exhausted K O (struck S₀ r) → Exhausted K O (struck S₀ s) → struck S₀ r ≡ struck S₀ s
same-struck K O lawful S₀ r s gr gs er es = fun_ext (λ i. fun_ext (λ j. iff
    (record-within K O lawful S₀ (struck S₀ s) (record-keeps K O S₀ s gs) es r gr i j)
    (record-within K O lawful S₀ (struck S₀ r) (record-keeps K O S₀ r gr) er s gs i j)))

-- ---- more orders

-- every order of O stands in O'
pub record More (O O' : Standing) : Type 0 where
  pub holds : (i j : ℕ) → O.held i j ≡ true → O'.held i j ≡ true
  pub bars : (i j : ℕ) → O.barred i j ≡ true → O'.barred i j ≡ true

module _ (K : Market) (O O' : Standing) (w : More O O') (S₀ : Struck) where
  pub fits_more : (S : Struck) (i j : ℕ) (r : Reason) → fits K O S i j r ≡ true → fits K O' S i j r ≡ true
  unfolding fits
  fits_more S i j Barred f = w.bars i j f
  fits_more S i j (HeldElsewhere j') f = and_intro (w.holds i j' (and_left _ _ f)) (and_right (O.held i j') _ f)
  fits_more S i j PostsGone f = f
  fits_more S i j (Passed k) f = f

  -- a record allowed for some orders is allowed for more
  pub record-more : (rec : List Strike) → AllowedRecord K O S₀ rec → AllowedRecord K O' S₀ rec
  unfolding allowed
  record-more rec start = start
  record-more rec (more {rec = old} x g a) = more x (record-more old g)
      (and_intro (allowed-pair K O (struck S₀ old) _ _ _ a)
      (and_intro (ap not (allowed-new K O (struck S₀ old) _ _ _ a)) (fits_more (struck S₀ old) _ _ _ (allowed-fits K O (struck S₀ old) _ _ _ a))))

-- so the set that can't be added to grows with the orders
pub struck-more : (K : Market) (O O' : Standing) → More O O' → Lawful K O' → (r s : List Strike) → AllowedRecord K O nothing r → AllowedRecord K O' nothing s
    → Exhausted K O' (struck nothing s) → (i j : ℕ) → struck nothing r i j ≡ true → struck nothing s i j ≡ true
struck-more K O O' w lawful r s gr gs es =
    record-within K O' lawful nothing (struck nothing s) (record-keeps K O' nothing s gs) es r (record-more K O O' w nothing r gr)

-- ---- a record read from its front

pub record-on : (K : Market) (O : Standing) (S₀ : Struck) (rec xs : List Strike) → AllowedRecord K O S₀ rec → AllowedFrom K O S₀ rec xs
    → AllowedRecord K O S₀ (rec ++ xs)
record-on K O S₀ rec xs g end = rw append-nil g
record-on K O S₀ rec xs g (next {xs = ys} x a f) = rw append_assoc at (record-on K O S₀ (rec ++ (x ∷ [])) ys (more x g a) f)

pub from_then : (K : Market) (O : Standing) (S₀ : Struck) (rec xs ys : List Strike) → AllowedFrom K O S₀ rec xs → AllowedFrom K O S₀ (rec ++ xs) ys
    → AllowedFrom K O S₀ rec (xs ++ ys)
from_then K O S₀ rec xs ys end g = rw append-nil at g
from_then K O S₀ rec xs ys (next {xs = zs} x a f) g = next x a (from_then K O S₀ (rec ++ (x ∷ [])) zs ys f (rw append_assoc g))

pub record-from : (K : Market) (O : Standing) (S₀ : Struck) (rec : List Strike) → AllowedRecord K O S₀ rec → AllowedFrom K O S₀ [] rec
record-from K O S₀ rec start = end
record-from K O S₀ rec (more {rec = old} x g a) = from_then K O S₀ [] old (x ∷ []) (record-from K O S₀ old g) (next x a end)
