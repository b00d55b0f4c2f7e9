-- The left table gives each trainee their best mutual pair not struck, or none.
-- Assumes nothing.
use Prim.Native.Nat.{ℕ, zero, suc, ◌+◌, ◌≤◌, ◌<◌}
use mathlib.Core.Path.{◌≡◌, refl, sym, ap, ◌∙◌, subst}
use mathlib.Core.Logic.{⊎_elim}
use mathlib.Core.Bool.{Bool, true, false, not}
use mathlib.Core.List.{List, [], ◌∷◌}
use native.Mathlib.Omega.{arith}
use native.Mathlib.Nat.{add-suc, suc-add, add-zero}
use lib.ListN.{length, get_or}
use borrow.Author.Tests.{not-true}
use Rattle.meaning.specs.Numbers.{In}
use Rattle.meaning.specs.Lists.{place}
use Rattle.meaning.specs.Market.{Market, Ranged, Mutual, mutual?}
use Rattle.meaning.specs.Strikes.{Struck, left?, first_left, Left}
use Rattle.meaning.specs.Endings.{table_of, left_from, left_table, left_of}
use Rattle.meaning.proofs.Booleans.{never, and_left, and_right, and_intro}
use Rattle.meaning.proofs.Lists.{place-cases, place-later, place_here}
use Rattle.meaning.proofs.Pairs.{mutual-is, is-mutual}

-- what the first left on a list is: no other that is left stands higher
pub data FirstLeft (K : Market) (S : Struck) (i : ℕ) (l : List ℕ) : ℕ → Type 0 where
  first : (x : ℕ) → 0 < place l x → left? K S i x ≡ true
      → ((z : ℕ) → 0 < place l z → left? K S i z ≡ true → place l x ≤ place l z) → FirstLeft K S i l x
  empty : ((z : ℕ) → 0 < place l z → left? K S i z ≡ false) → FirstLeft K S i l 0

module _ (K : Market) (S : Struck) (i : ℕ) where
  pub first-left : (l : List ℕ) → FirstLeft K S i l (first_left K S i l)
  unfolding first_left place
  first-left [] = empty (λ z p. absurd (omega arith))
  first-left (j ∷ js) = go (left? K S i j) refl (first_left K S i js) (first-left js)
    where
      go : (b : Bool) → left? K S i j ≡ b → (x : ℕ) → FirstLeft K S i js x → FirstLeft K S i (j ∷ js) (elim b [ true ↦ j | false ↦ x ])
      go true e x f = first j (omega (arith, place_here j js j refl)) e (λ z p t. omega (arith, place_here j js j refl))
      go false e x (empty h) =
          empty (λ z p. ⊎_elim (λ q. subst (λ y. left? K S i y ≡ false) q e) (λ p'. h z p') (place-cases j js z p))
      go false e _ (first x p t h) = first x
          (omega (arith, place-later j js x (apart x t) p)) t
          (λ z p' t'. ⊎_elim
          (λ q. absurd (apart z t' q))
          (λ p''. omega (arith, place-later j js x (apart x t) p, place-later j js z (apart z t') p'', h z p'' t'))
          (place-cases j js z p'))
        where
          apart : (y : ℕ) → left? K S i y ≡ true → j ≡ y → ⊥
          apart y u q = never u (subst (λ y. left? K S i y ≡ false) q e)

  pub left-pair : (j : ℕ) → left? K S i j ≡ true → Mutual K i j
  unfolding left?
  left-pair j t = mutual-is K i j (and_left _ _ t)

  pub left-unstruck : (j : ℕ) → left? K S i j ≡ true → S i j ≡ false
  unfolding left?
  left-unstruck j t = not-true _ (and_right (mutual? K i j) _ t)

  pub is-left : (j : ℕ) → Mutual K i j → S i j ≡ false → left? K S i j ≡ true
  unfolding left?
  is-left j p u = and_intro (is-mutual K i j p) (ap not u)

left_at : (K : Market) (lists : ℕ → List ℕ) (S : Struck) (d a k : ℕ) → k < d → get_or (left_from K lists S d a) k 0 ≡ first_left K S (a + k) (lists (a + k))
unfolding left_from
left_at K lists S zero a k h = absurd (omega arith)
left_at K lists S (suc d) a zero h = rw add-zero
left_at K lists S (suc d) a (suc k) h = rw (add-suc, ← suc-add) (left_at K lists S d (suc a) k (omega arith))

left-length : (K : Market) (lists : ℕ → List ℕ) (S : Struck) (d a : ℕ) → length (left_from K lists S d a) ≡ d
unfolding left_from
left-length K lists S zero a = refl
left-length K lists S (suc d) a = ap suc (left-length K lists S d (suc a))

-- a cell for each trainee
pub left-table-length : (K : Market) (lists : ℕ → List ℕ) (S : Struck) → length (left_table K lists S) ≡ K.n
unfolding left_table
left-table-length K lists S = left-length K lists S K.n 1

module _ (K : Market) (ranged : Ranged K) (lists : ℕ → List ℕ) (listed : (i j : ℕ) → K.trainee_rank i j ≡ place (lists i) j) (S : Struck) where
  pub at_left : (i : ℕ) → In K.n i → left_of K lists S i ≡ first_left K S i (lists i)
  unfolding table_of left_table
  at_left zero r = absurd (omega arith)
  at_left (suc k) r = left_at K lists S K.n 1 k (omega arith) ∙ ap (λ x. first_left K S x (lists x)) (omega arith)

  view : (i : ℕ) → In K.n i → FirstLeft K S i (lists i) (left_of K lists S i)
  view i r = subst (λ x. FirstLeft K S i (lists i) x) (sym (at_left i r)) (first-left K S i (lists i))

  pub left-table : Left K S (left_of K lists S)
  left-table = record {
    pairs = λ i r l. pair i _ (view i r) l;
    unstruck = λ i r l. unstruck i _ (view i r) l;
    sits = λ i j p u. sit i j _ (view i (ranged.trainee_in_range i j p.ranks)) p u;
    best = λ i j p u. best i j _ (view i (ranged.trainee_in_range i j p.ranks)) p u;
  }
    where
      pair : (i x : ℕ) → FirstLeft K S i (lists i) x → 0 < x → Mutual K i x
      pair i _ (first x p t h) l = left-pair K S i x t
      pair i _ (empty h) l = absurd (omega arith)

      unstruck : (i x : ℕ) → FirstLeft K S i (lists i) x → 0 < x → S i x ≡ false
      unstruck i _ (first x p t h) l = left-unstruck K S i x t
      unstruck i _ (empty h) l = absurd (omega arith)

      sit : (i j x : ℕ) → FirstLeft K S i (lists i) x → Mutual K i j → S i j ≡ false → 0 < x
      sit i j _ (first x p t h) q u = (ranged.depot_in_range i x (left-pair K S i x t).ranks).low
      sit i j _ (empty h) q u = absurd (never (is-left K S i j q u) (h j (rw listed at q.ranks)))

      best : (i j x : ℕ) → FirstLeft K S i (lists i) x → Mutual K i j → S i j ≡ false → K.trainee_rank i x ≤ K.trainee_rank i j
      best i j _ (first x p t h) q u =
          let l : 0 < place (lists i) j = rw listed at q.ranks in
          omega (arith, listed i x, listed i j, h j l (is-left K S i j q u))
      best i j _ (empty h) q u = absurd (never (is-left K S i j q u) (h j (rw listed at q.ranks)))
