-- Good entries, tested from the last one back: the marks are the entries behind. Assumes nothing.
use Prim.Native.Nat.{ℕ, zero, suc, ◌-◌, ◌≤◌, ◌<◌}
use mathlib.Core.Path.{◌≡◌, refl, sym, ap, ◌∙◌, subst}
use mathlib.Core.Logic.{◌⊎◌, inl, inr}
use mathlib.Core.Bool.{Bool, true, false, not}
use mathlib.Core.List.{List, [], ◌∷◌}
use native.Mathlib.Omega.{arith}
use lib.ListN.{length, get_or, drop, set, length-set, replicate, get_or-replicate, drop_of_length-le}
use Rattle.std.proofs.Common.{reverse}
use Rattle.std.proofs.lemmas.List.{length-reverse, get_or-reverse}
use Rattle.std.proofs.lemmas.Grind.{get_or_default_zero}
use lib.Seq.{drop-cons, get_or-set_same, get_or-set_other}
use lib.Dec.{eqb}
use borrow.Author.Tests.{eqb-true, eqb-false}
use Rattle.meaning.specs.Numbers.{◌&◌}
use Rattle.meaning.specs.Lists.{member}
use Rattle.meaning.proofs.Booleans.{true-or-false, and_left}
use Rattle.tables.proofs.Tests.{in_within, within_in}
use Rattle.tables.specs.Decode.{within, good_entries}

-- ---- one number

pub inside : (hi x : ℕ) (b : Bool) → 1 ≤ x → x ≤ hi → within hi x & b ≡ b
unfolding ◌&◌
inside hi x b h k = rw (in_within hi x (record { low = h; high = k }))

-- ---- one more entry in front

good-head : (hi x : ℕ) (xs : List ℕ) → good_entries hi xs ≡ true → good_entries hi (x ∷ xs) ≡ within hi x & not (member x xs)
unfolding good_entries ◌&◌
good-head hi x xs h = rw h (go (within hi x) (member x xs))
  where
    go : (a b : Bool) → a & (not b & true) ≡ a & not b
    go true true = refl
    go true false = refl
    go false b = refl

good-tail : (hi x : ℕ) (xs : List ℕ) → good_entries hi xs ≡ false → good_entries hi (x ∷ xs) ≡ false
unfolding good_entries ◌&◌
good-tail hi x xs h = rw h (go (within hi x) (member x xs))
  where
    go : (a b : Bool) → a & (not b & false) ≡ false
    go true true = refl
    go true false = refl
    go false b = refl

good-drop : (hi k : ℕ) (l : List ℕ) → good_entries hi (drop k l) ≡ false → good_entries hi l ≡ false
good-drop hi zero l h = h
good-drop hi (suc k) [] h = h
good-drop hi (suc k) (x ∷ xs) h = good-tail hi x xs (good-drop hi k xs h)

-- the marks are those of the entries
abbrev Marked : List Bool → List ℕ → Type 0
Marked marks l = (x : ℕ) → x ≤ 256 → get_or marks x false ≡ member x l

fresh-is : (hi x : ℕ) (marks : List Bool) (xs : List ℕ) → hi ≤ 256 → Marked marks xs → within hi x & not (get_or marks x false) ≡ within hi x & not (member x xs)
unfolding ◌&◌
fresh-is hi x marks xs h m = go (true-or-false (within hi x))
  where
    go : (within hi x ≡ true) ⊎ (within hi x ≡ false) → within hi x & not (get_or marks x false) ≡ within hi x & not (member x xs)
    go (inl t) = let b = within_in hi x t in ap (λ z. within hi x & not z) (m x (omega (arith, b.high)))
    go (inr f) = rw f

mark-more : (marks : List Bool) (x : ℕ) (xs : List ℕ) → length marks ≡ 257 → x ≤ 256 → Marked marks xs → Marked (set marks x true) (x ∷ xs)
unfolding member
mark-more marks x xs n h m y k = go (true-or-false (eqb y x))
  where
    go : (eqb y x ≡ true) ⊎ (eqb y x ≡ false) → get_or (set marks x true) y false ≡ member y (x ∷ xs)
    go (inl t) = rw (t, member) (rw (eqb-true y x t) (get_or-set_same marks x true false (omega arith)))
    go (inr f) = rw (f, member) (get_or-set_other marks x y true false (eqb-false y x f) ∙ m y k)

-- ---- the scan

-- the entries from p on are good, and theirs are the marks
pub record Scanned (hi : ℕ) (l : List ℕ) (p : ℕ) (marks : List Bool) : Type 0 where
  pub top : p ≤ length l
  pub good : good_entries hi (drop p l) ≡ true
  pub room : length marks ≡ 257
  pub marked : Marked marks (drop p l)

pub scan-start : (hi : ℕ) (l : List ℕ) (marks : List Bool) → marks ≡ replicate 257 false → length marks ≡ 257 → Scanned hi l (length l) marks
unfolding good_entries member
scan-start hi l marks e n =
    let d : drop (length l) l ≡ [] = (let k : length l ≤ length l = omega arith in drop_of_length-le l k) in
    record {
      top = omega arith;
      good = rw d;
      room = n;
      marked = λ x k. rw (e, d) (get_or-replicate 257 x false false (omega arith));
    }

pub scan-done : (hi : ℕ) (l : List ℕ) (p : ℕ) (marks : List Bool) → Scanned hi l p marks → p ≡ 0 → true ≡ good_entries hi l
scan-done hi l p marks s z = sym (ap (λ k. good_entries hi (drop k l)) (sym z) ∙ s.good)

-- the n-th from the last one back
pub from-behind : (l : List ℕ) (n x : ℕ) → (n < length (reverse l)) × (x ≡ get_or (reverse l) n x) → (n < length l) × (x ≡ get_or l (length l - n - 1) 0)
from-behind l n x (k, e) =
    let m : n < length l = omega (arith, k, length-reverse l) in
    let z : length l - 1 - n ≡ length l - n - 1 = omega arith in
    (m, e ∙ get_or-reverse l n x m ∙ get_or_default_zero l (length l - 1 - n) x (omega arith) ∙ ap (λ i. get_or l i 0) z)

module _ (hi : ℕ) (l : List ℕ) (p : ℕ) (marks : List Bool) (s : Scanned hi l p marks) (few : hi ≤ 256) (up : 0 < p)
    (x : ℕ) (is : x ≡ get_or l (p - 1) 0) (r : Bool) (fr : r ≡ within hi x & not (get_or marks x false)) where
  front : drop (p - 1) l ≡ x ∷ drop p l
  front =
      let n : suc (p - 1) ≡ p = omega arith in
      let t = s.top in
      drop-cons l (p - 1) 0 (omega arith) ∙ rw (n, is)

  now-good : r ≡ good_entries hi (drop (p - 1) l)
  now-good = fr ∙ fresh-is hi x marks (drop p l) few s.marked ∙ sym (ap (good_entries hi) front ∙ good-head hi x (drop p l) s.good)

  pub scan-bad : r ≡ false → false ≡ good_entries hi l
  scan-bad b = sym (good-drop hi (p - 1) l (sym now-good ∙ b))

  pub scan-in : r ≡ true → x ≤ 256
  scan-in t = let b = within_in hi x (and_left _ _ (sym fr ∙ t)) in omega (arith, b.high)

  on : r ≡ true → Scanned hi l (p - 1) (set marks x true)
  on t =
      let u = s.top in
      record {
        top = omega arith;
        good = sym now-good ∙ t;
        room = length-set marks x true ∙ s.room;
        marked = subst (Marked (set marks x true)) (sym front) (mark-more marks x (drop p l) s.room (scan-in t) s.marked);
      }

  pub scan-on : r ≡ true → (q : ℕ) → q ≡ p - 1 → Scanned hi l q (set marks x true)
  scan-on t q z = rw z (on t)
