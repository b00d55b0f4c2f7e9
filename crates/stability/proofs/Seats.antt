-- The counts and the worst ranks that are kept for each depot: one trainee more, and what the worst rank says of all of them.
-- Assumes nothing.
use Prim.Native.Nat.{ℕ, zero, suc, ◌+◌, ◌≤◌, ◌<◌}
use mathlib.Core.Path.{◌≡◌, refl, sym, ap, ◌∙◌, subst}
use mathlib.Core.Logic.{◌⊎◌, inl, inr, ⊎_elim}
use mathlib.Core.Bool.{Bool, true, false, not, cond}
use Rattle.std.proofs.Common.{Equal, Greater}
use Rattle.std.specs.Ordering.{is_lt, nat_cmp, ord_max}
use mathlib.Core.List.{List}
use native.Mathlib.Omega.{arith}
use native.Mathlib.Numerals.{add-one}
use lib.ListN.{length, get_or, set, replicate, get_or-replicate}
use lib.Seq.{get_or-set_same, get_or-set_other}
use lib.Dec.{ltb, eqb}
use borrow.Author.Tests.{ltb-true, ltb-false, lt-ltb, le-ltb, eq-eqb, ne_eqb}
use Rattle.stability.specs.Search.{larger, worst_of, Counts, Worsts, TestTables, PairTables}
use Rattle.meaning.specs.Numbers.{In, ◌&◌, all, bit, sum, count}
use Rattle.meaning.specs.Market.{Market, Table, placed}
use Rattle.meaning.specs.Endings.{table_of}
use Rattle.meaning.proofs.Booleans.{true-or-false}
use Rattle.meaning.proofs.Numbers.{order, same, bit_le}
use Rattle.meaning.proofs.Counting.{table-within}
use Rattle.ranks.specs.View.{n_of, m_of, posts_of, market_of}
use Rattle.ranks.proofs.Tables.{ranged-tables}

-- ---- one cell stored

-- cells that hold g at 0 to 64 hold g' after the one at j is stored, where g' is g elsewhere
pub stored : (g g' : ℕ → ℕ) (cells : List ℕ) (j v : ℕ) → length cells ≡ 65 → j ≤ 64 → ((x : ℕ) → x ≤ 64 → get_or cells x 0 ≡ g x)
    → v ≡ g' j → ((x : ℕ) → (j ≡ x → ⊥) → g' x ≡ g x) → (x : ℕ) → x ≤ 64 → get_or (set cells j v) x 0 ≡ g' x
stored g g' cells j v long small holds is other x l = ⊎_elim
    (λ (e : j ≡ x). ap (λ y. get_or (set cells j v) y 0) (sym e) ∙ get_or-set_same cells j v 0 (omega arith) ∙ is ∙ ap g' e)
    (λ ne. get_or-set_other cells j x v 0 (λ e. ne (sym e)) ∙ holds x l ∙ sym (other x ne))
    (same j x)

-- ---- the larger of two

pub larger-right : (a b : ℕ) → a < b → larger a b ≡ b
unfolding larger
larger-right a b l = rw (lt-ltb a b l, larger)

pub larger-left : (a b : ℕ) → b ≤ a → larger a b ≡ a
unfolding larger
larger-left a b l = rw (le-ltb a b l, larger)

-- the library's larger is the same
pub larger-max : (a b : ℕ) → ord_max nat_cmp a b ≡ larger a b
larger-max a b = ⊎_elim (λ (u : a ≤ b). rw (le-ltb b a u) (beyond (eqb b a)) ∙ right u) (λ (u : b < a). rw (lt-ltb b a u) (sym (larger-left a b (omega arith)))) (order a b)
  where
    beyond : (e : Bool) → cond (is_lt (cond e Equal Greater)) a b ≡ b
    beyond true = refl
    beyond false = refl

    right : a ≤ b → b ≡ larger a b
    right u = ⊎_elim (λ (v : b ≤ a). let z : b ≡ a = omega arith in z ∙ sym (larger-left a b v)) (λ (v : a < b). sym (larger-right a b v)) (order b a)

-- ---- one trainee more

module _ (f : ℕ → Bool) (k : ℕ) where
  count_next : count (k + 1) f ≡ bit (f (k + 1)) + count k f
  unfolding count sum
  count_next = rw add-one

pub count-few : (f : ℕ → Bool) (n : ℕ) → count n f ≤ n
unfolding count sum
count-few f zero = omega arith
count-few f (suc n) = omega (arith, bit_le (f (suc n)) true (λ _. refl), count-few f n)

module _ (M : Table) (k : ℕ) (cells : List ℕ) (long : length cells ≡ 65) (j : ℕ) (small : j ≤ 64) (is : j ≡ M (k + 1)) where
  pub counts-more : Counts M k cells → Counts M (k + 1) (set cells j (get_or cells j 0 + 1))
  counts-more c = stored (λ x. count k (λ i. eqb (M i) x)) (λ x. count (k + 1) (λ i. eqb (M i) x)) cells j (get_or cells j 0 + 1) long small c
      (omega (arith, c j small, count_next (λ i. eqb (M i) j) k, ap bit (eq-eqb (M (k + 1)) j (sym is))))
      (λ x ne. omega (arith, count_next (λ i. eqb (M i) x) k, ap bit (ne_eqb (M (k + 1)) x (λ e. ne (is ∙ e)))))

  module _ (K : Market) where
    worst-taken : (x : ℕ) → eqb (M (k + 1)) x ≡ true → worst_of K M (k + 1) x ≡ larger (worst_of K M k x) (K.depot_rank x (k + 1))
    unfolding worst_of
    worst-taken x e = let d : eqb (M (suc k)) x ≡ true = rw add-one at e in rw add-one (rw (d, worst_of))

    worst-kept : (x : ℕ) → eqb (M (k + 1)) x ≡ false → worst_of K M (k + 1) x ≡ worst_of K M k x
    unfolding worst_of
    worst-kept x e = let d : eqb (M (suc k)) x ≡ false = rw add-one at e in rw add-one (rw (d, worst_of))

    pub worsts-more : Worsts K M k cells → (v : ℕ) → v ≡ larger (get_or cells j 0) (K.depot_rank j (k + 1)) → Worsts K M (k + 1) (set cells j v)
    worsts-more w v e = stored (worst_of K M k) (worst_of K M (k + 1)) cells j v long small w
        (e ∙ ap (λ a. larger a (K.depot_rank j (k + 1))) (w j small) ∙ sym (worst-taken j (eq-eqb (M (k + 1)) j (sym is))))
        (λ x ne. worst-kept x (ne_eqb (M (k + 1)) x (λ e. ne (is ∙ e))))

    -- a depot that doesn't rank the trainee keeps its worst rank
    pub worsts-same : Worsts K M k cells → K.depot_rank j (k + 1) ≡ 0 → Worsts K M (k + 1) cells
    worsts-same w z x l = ⊎_elim
        (λ (e : M (k + 1) ≡ x). w x l ∙ sym (worst-taken x (eq-eqb (M (k + 1)) x e) ∙ ap (larger (worst_of K M k x)) (ap (λ y. K.depot_rank y (k + 1)) (sym e ∙ sym is) ∙ z) ∙ larger-left (worst_of K M k x) 0 (omega arith)))
        (λ (n : M (k + 1) ≡ x → ⊥). w x l ∙ sym (worst-kept x (ne_eqb (M (k + 1)) x n)))
        (same (M (k + 1)) x)

-- where each cell is small, so is the next trainee's
pub given-small : (t : List ℕ) (k j : ℕ) → k < length t → ((i : ℕ) → In (length t) i → table_of t i ≤ 64) → j ≡ table_of t (k + 1) → j ≤ 64
given-small t k j l small is = rw is (small (k + 1) (record { low = omega arith; high = omega arith }))

-- where each pair is mutual, each trainee has a depot of 1 to m or none
pub table-inside : (h e t : List ℕ) → PairTables h e t → (i : ℕ) → In (n_of h) i → table_of t i ≤ m_of h
unfolding market_of
table-inside h e t s i r = table-within (market_of h e) (ranged-tables h e s.tables.full) (table_of t) s.pairs i r

pub given-in : (h e t : List ℕ) → PairTables h e t → (k j : ℕ) → k < length t → j ≡ table_of t (k + 1) → j ≤ m_of h
given-in h e t s k j l is = rw is (table-inside h e t s (k + 1) (record { low = omega arith; high = omega (arith, s.tables.cells) }))

-- all trainees
pub counts_all : (h e t counts : List ℕ) → TestTables h e t → Counts (table_of t) (length t) counts → Counts (table_of t) (n_of h) counts
counts_all h e t counts s c = subst (λ n. Counts (table_of t) n counts) s.cells c

-- no trainee yet
pub counts_start : (M : Table) → Counts M 0 (replicate 65 0)
unfolding count sum
counts_start M j l = get_or-replicate 65 j 0 0 (omega arith)

pub worsts-start : (K : Market) (M : Table) → Worsts K M 0 (replicate 65 0)
unfolding worst_of
worsts-start K M j l = get_or-replicate 65 j 0 0 (omega arith)

larger-above : (r a b : ℕ) → r < b → ltb r (larger a b) ≡ true
larger-above r a b l = ⊎_elim
    (λ (u : b ≤ a). rw (larger-left a b u) (lt-ltb r a (omega arith)))
    (λ (u : a < b). rw (larger-right a b u) (lt-ltb r b l))
    (order b a)

larger-below : (r a b : ℕ) → b ≤ r → ltb r (larger a b) ≡ ltb r a
larger-below r a b l = ⊎_elim
    (λ (u : b ≤ a). rw (larger-left a b u))
    (λ (u : a < b). rw (larger-right a b u, le-ltb r b l, le-ltb r a (omega arith)))
    (order b a)

-- ---- a rank above the worst is above that of one of them

module _ (K : Market) (M : Table) (r j : ℕ) where
  pub worst-below : (n : ℕ) → ltb r (worst_of K M n j) ≡ not (all n (λ k. not (eqb (M k) j & ltb r (K.depot_rank j k))))
  unfolding worst_of all ◌&◌
  worst-below zero = le-ltb r 0 (omega arith)
  worst-below (suc n) = go (eqb (M (suc n)) j) refl (true-or-false (ltb r (K.depot_rank j (suc n)))) (worst-below n)
    where
      go : (b : Bool) → eqb (M (suc n)) j ≡ b → (ltb r (K.depot_rank j (suc n)) ≡ true) ⊎ (ltb r (K.depot_rank j (suc n)) ≡ false)
          → ltb r (worst_of K M n j) ≡ not (all n (λ k. not (eqb (M k) j & ltb r (K.depot_rank j k))))
          → ltb r (elim b [ true ↦ larger (worst_of K M n j) (K.depot_rank j (suc n)) | false ↦ worst_of K M n j ])
          ≡ not (elim (not (b & ltb r (K.depot_rank j (suc n)))) [ true ↦ all n (λ k. not (eqb (M k) j & ltb r (K.depot_rank j k))) | false ↦ false ])
      go false e _ ih = ih
      go true e (inl t) ih = rw t (larger-above r _ _ (ltb-true _ _ t))
      go true e (inr u) ih = rw u (larger-below r _ _ (ltb-false _ _ u) ∙ ih)

-- ---- over its posts

module _ (h e : List ℕ) (M : Table) (counts : List ℕ) (c : Counts M (n_of h) counts) (j posts : ℕ) (small : j ≤ 64) (is : posts ≡ posts_of h j) where
  pub over-posts : posts < get_or counts j 0 → ltb ((market_of h e).posts j) (placed (market_of h e) M j) ≡ true
  unfolding market_of placed
  over-posts l = lt-ltb (posts_of h j) _ (omega (arith, is, c j small, l))

  pub within-posts : get_or counts j 0 ≤ posts → ltb ((market_of h e).posts j) (placed (market_of h e) M j) ≡ false
  unfolding market_of placed
  within-posts l = le-ltb (posts_of h j) _ (omega (arith, is, c j small, l))
