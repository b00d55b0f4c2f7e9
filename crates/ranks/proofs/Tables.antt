-- The tables' market, read where a trainee or a depot is in range, and lawful.
-- Assumes nothing.
use Prim.Native.Nat.{ℕ, suc, ◌+◌, ◌<◌}
use mathlib.Core.Path.{◌≡◌, sym, ap, ◌∙◌}
use mathlib.Core.Logic.{◌⊎◌, inl, inr}
use mathlib.Core.Bool.{Bool, true, false}
use mathlib.Core.List.{List}
use native.Mathlib.Omega.{arith}
use lib.ListN.{get_or}
use lib.Dec.{ltb}
use borrow.Author.Tests.{lt-ltb, le-ltb, ltb-true}
use Rattle.std.specs.Prelude.{Option, Some, None, is_some}
use Rattle.ranks.specs.View.{n_of, m_of, wishes_of, ranking_of, posts_of, market_of, place_of, FullTables}
use Rattle.ranks.proofs.Places.{on_list}
use Rattle.meaning.specs.Numbers.{In, ◌&◌}
use Rattle.meaning.specs.Lists.{place}
use Rattle.meaning.specs.Market.{Ranged, Strict, mutual?}
use Rattle.meaning.proofs.Booleans.{true-or-false}
use Rattle.meaning.proofs.Lists.{place-inj}
use Rattle.tables.specs.Cells.{missing_cell, trainee_start, depot_start, part}
use Rattle.tables.specs.Decode.{within}
use Rattle.tables.proofs.Tests.{in_within, within_in}

pub wishes-are : (h e : List ℕ) (i : ℕ) → In (n_of h) i → wishes_of h e i ≡ part h e (trainee_start i)
unfolding wishes_of
wishes-are h e i r = rw (in_within _ _ r)

pub ranking-is : (h e : List ℕ) (j : ℕ) → In (m_of h) j → ranking_of h e j ≡ part h e (depot_start (n_of h) j)
unfolding ranking_of
ranking-is h e j r = rw (in_within _ _ r)

pub posts-are : (h : List ℕ) (j : ℕ) → In (m_of h) j → posts_of h j ≡ get_or h (depot_start (n_of h) j + 2) 0
unfolding posts_of
posts-are h j r = rw (in_within _ _ r)

pub posts-given : (h e : List ℕ) → FullTables h e → (j : ℕ) → In (m_of h) j → get_or h (depot_start (n_of h) j + 2) 0 ≡ missing_cell → ⊥
posts-given h e f j r q = omega (arith, f.few_posts j, posts-are h j r)

trainee-of : (h e : List ℕ) (i j : ℕ) → 0 < place (wishes_of h e i) j → In (n_of h) i
unfolding wishes_of place
trainee-of h e i j l = go (true-or-false (within (n_of h) i))
  where
    go : (within (n_of h) i ≡ true) ⊎ (within (n_of h) i ≡ false) → In (n_of h) i
    go (inl t) = within_in _ _ t
    go (inr u) = absurd (let z : 0 < 0 = rw (u, wishes_of) at l in omega arith)

module _ (h e : List ℕ) (ft : FullTables h e) where
  pub ranged-tables : Ranged (market_of h e)
  unfolding market_of
  ranged-tables = record {
    trainee_in_range = trainee-of h e;
    depot_in_range = λ i j l. on_list (In (m_of h)) (wishes_of h e i) j l (ft.trainee_names i);
  }

  pub strict-tables : Strict (market_of h e)
  unfolding market_of
  strict-tables = record {
    trainee_strict = λ i j j' l q. place-inj (wishes_of h e i) j j' l q;
    depot_strict = λ j i i' l q. place-inj (ranking_of h e j) i i' l q;
  }

-- ---- whether two rank each other

some-place : (p : Option ℕ) → ltb 0 (place_of p) ≡ is_some p
some-place None = le-ltb 0 0 (omega arith)
some-place (Some p) = lt-ltb 0 (suc p) (omega arith)

module _ (h e : List ℕ) (i j : ℕ) (p : Option ℕ) (w : List ℕ) (ew : w ≡ wishes_of h e i) (ep : place_of p ≡ place w j) (b : Bool) (eb : b ≡ is_some p) where
  found : ltb 0 (place (wishes_of h e i) j) ≡ b
  found = ap (λ (l : List ℕ). ltb 0 (place l j)) (sym ew) ∙ ap (ltb 0) (sym ep) ∙ some-place p ∙ sym eb

  pub not-ranked : b ≡ false → b ≡ mutual? (market_of h e) i j
  unfolding mutual? market_of ◌&◌
  not-ranked f = f ∙ rw (found, f)

  pub ranked-in : FullTables h e → b ≡ true → In (m_of h) j
  ranked-in ft t = on_list (In (m_of h)) (wishes_of h e i) j (ltb-true 0 _ (found ∙ t)) (ft.trainee_names i)

  pub ranked-back : b ≡ true → (q : Option ℕ) (r : List ℕ) → r ≡ ranking_of h e j → place_of q ≡ place r i → (d : Bool) → d ≡ is_some q → d ≡ mutual? (market_of h e) i j
  unfolding mutual? market_of ◌&◌
  ranked-back t q r er eq d ed =
      let a : ltb 0 (place (ranking_of h e j) i) ≡ d = ap (λ (l : List ℕ). ltb 0 (place l i)) (sym er) ∙ ap (ltb 0) (sym eq) ∙ some-place q ∙ sym ed in
      rw (found, t, a)
