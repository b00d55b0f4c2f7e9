-- A table's cells, and the search upward for the first that passes: one more, and the end.
-- Assumes nothing.
use Prim.Native.Nat.{ℕ, suc, ◌+◌, ◌-◌, ◌<◌}
use mathlib.Core.Path.{◌≡◌, sym, ap, ◌∙◌}
use mathlib.Core.Logic.{⊎_elim}
use mathlib.Core.Bool.{Bool, true, false, not}
use mathlib.Core.Option.{Option, none, some}
use mathlib.Core.List.{List}
use native.Mathlib.Omega.{arith}
use native.Mathlib.Numerals.{add-one}
use lib.ListN.{get_or}
use lib.Dec.{ltb, eqb}
use borrow.Author.Tests.{lt-ltb}
use Rattle.stability.specs.Search.{found_of, stranger?}
use Rattle.meaning.specs.Numbers.{In, ◌&◌, first_from, smallest}
use Rattle.meaning.specs.Market.{Market, Table, Mutual, mutual?}
use Rattle.meaning.specs.Endings.{table_of}
use Rattle.meaning.specs.Stability.{first_stranger, first_over, blocking_from, stranger_or, over_or, test_by}
use Rattle.meaning.proofs.Booleans.{true-or-false, never, and_intro, none-some}
use Rattle.meaning.proofs.Numbers.{Smallest, least, no-least, smallest-is}
use Rattle.meaning.proofs.Pairs.{mutual-is}
use Rattle.std.specs.Prelude as rust
use Rattle.meaning.specs.declared.Tested.{Tested}
use Rattle.meaning.specs.declared.Tested.TheVariants.{NotMutual, OverPosts}

module _ (f : ℕ → Bool) (d i : ℕ) (first : Option ℕ) (inv : first ≡ first_from d i f) where
  pub first-here : (d' : ℕ) → d ≡ suc d' → f i ≡ true → some i ≡ first
  unfolding first_from
  first-here d' n t = sym (inv ∙ rw n (rw (t, first_from)))

  pub first-later : (d' : ℕ) → d ≡ suc d' → f i ≡ false → first ≡ first_from d' (i + 1) f
  unfolding first_from
  first-later d' n u = inv ∙ rw n (rw (u, first_from) (rw add-one))

  pub first-none : d ≡ 0 → none ≡ first
  unfolding first_from
  first-none n = sym (inv ∙ rw n)

pub from_one : (f : ℕ → Bool) (n : ℕ) → first_from n 1 f ≡ first_from (n + 1 - 1) 1 f
from_one f n = let z : n ≡ n + 1 - 1 = omega arith in ap (λ d. first_from d 1 f) z

-- ---- a trainee's cell

pub cell-at : (t : List ℕ) (k : ℕ) → table_of t (k + 1) ≡ get_or t k 0
unfolding table_of
cell-at t k = rw add-one

pub its-cell : (t : List ℕ) (k x : ℕ) → x ≡ get_or t k 0 → x ≡ table_of t (k + 1)
its-cell t k x e = e ∙ sym (cell-at t k)

module _ (x : ℕ) (b : Bool) where
  pub no-depot : x ≡ 0 → not (eqb x 0) ≡ (ltb 0 x & b)
  unfolding ◌&◌
  no-depot z = rw z

  pub some-depot : (x ≡ 0 → ⊥) → b ≡ (ltb 0 x & b)
  unfolding ◌&◌
  some-depot n = rw (lt-ltb 0 x (omega arith))

pub stranger-at : (K : Market) (M : Table) (i x : ℕ) (b : Bool) → x ≡ M i → b ≡ (ltb 0 x & not (mutual? K i x)) → stranger? K M i ≡ b
stranger-at K M i x b is e = sym (e ∙ rw is)

-- none is a stranger: each pair is mutual
pub all-mutual : (K : Market) (M : Table) → none ≡ first_stranger K M → (i : ℕ) → In K.n i → 0 < M i → Mutual K i (M i)
unfolding first_stranger
all-mutual K M q i r l = go (smallest K.n (stranger? K M)) (smallest-is K.n (stranger? K M)) q
  where
    go : (o : Option ℕ) → Smallest K.n (stranger? K M) o → none ≡ o → Mutual K i (M i)
    go _ (least k _ _ _) q = none-some q
    go _ (no-least h) q = ⊎_elim
        (λ t. mutual-is K i (M i) t)
        (λ u. absurd (never (and_intro (lt-ltb _ _ l) (ap not u)) (h i r)))
        (true-or-false (mutual? K i (M i)))

-- ---- from a search's answer to the test's

pub found-one : (first : Option ℕ) (k : ℕ) → found_of (rust.Some k) ≡ first → first ≡ some k
unfolding found_of
found-one first k is = sym is

pub found_none : (first : Option ℕ) → found_of rust.None ≡ first → none ≡ first
unfolding found_of
found_none first is = is

module _ (K : Market) (lists : ℕ → List ℕ) (M : Table) where
  pub answer-stranger : (i : ℕ) → first_stranger K M ≡ some i → NotMutual i ≡ test_by K lists M
  unfolding test_by stranger_or
  answer-stranger i e = rw e

  pub answer-pairs : none ≡ first_stranger K M → over_or (first_over K M) (blocking_from K lists M K.n 1) ≡ test_by K lists M
  unfolding test_by stranger_or
  answer-pairs e = rw (← e)

pub answer-over : (first : Option ℕ) (rest : Tested) (j : ℕ) → first ≡ some j → OverPosts j ≡ over_or first rest
unfolding over_or
answer-over first rest j e = rw e

pub answer-within : (first : Option ℕ) (rest : Tested) → none ≡ first → rest ≡ over_or first rest
unfolding over_or
answer-within first rest e = rw (← e)
