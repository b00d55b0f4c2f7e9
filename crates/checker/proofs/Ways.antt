-- One law for each way through the code of a step.
-- Assumes nothing.

-- ---- two tests, the second tried only where the first passes

use Prim.Native.Nat.{ℕ, suc, ◌-◌, ◌≤◌, ◌<◌}
use mathlib.Core.Path.{◌≡◌, refl, sym, ap, ◌∙◌}
use mathlib.Core.Bool.{Bool, true, false, true≢false, false≢true}
use mathlib.Core.List.{List, [], ◌∷◌}
use native.Mathlib.Omega.{arith}
use lib.ListN.{length, get_or, take, set, length-take}
use lib.Seq.{length-take-le}
use lib.Dec.{ltb, leb}
use denote.Enum.Bare.{sameb}
use Rattle.std.specs.Prelude as rust
use Rattle.std.specs.Option.{unwrap_or, is_some}
use Rattle.std.specs.Ordering.{partial_le}
use Rattle.reasons.specs.declared.Far.{Far}
use Rattle.reasons.specs.contracts.Far.{the_type}
use Rattle.reasons.specs.contracts.FarPartialOrd.TheImpl.{partial_cmp-value}
use Rattle.reasons.specs.Answers.{far_number}
use borrow.Author.Tests.{ltb-true, lt-ltb, le-leb, lt-leb}
use Rattle.checker.specs.Step.{ordered, fits_in, may_strike, rows_with}
use Rattle.reasons.specs.Left.{open_at}
use Rattle.meaning.specs.Numbers.{In, ◌&◌}
use Rattle.meaning.specs.Lists.{place}
use Rattle.meaning.proofs.Booleans.{and_left}
use Rattle.rows.specs.Marks.{is_marked, with_mark}
use Rattle.tables.specs.Decode.{within}
use Rattle.ranks.specs.View.{n_of, m_of, wishes_of, ranking_of, posts_of, place_of, Names, FullTables}
use Rattle.ranks.proofs.Places.{place-le, on_list, names-take}
use Rattle.reasons.specs.Scans.{count_in}
use Rattle.reasons.specs.Reasons.{settled, settled_by, above_of}
use Rattle.reasons.proofs.Steps.{passes-down}
use Rattle.meaning.specs.declared.Strike.{Strike}

pub and-stops : {a : Bool} (b : Bool) → a ≡ false → false ≡ (a & b)
unfolding ◌&◌
and-stops b u = rw u

pub and-goes : {a : Bool} (b : Bool) → a ≡ true → b ≡ (a & b)
unfolding ◌&◌
and-goes b t = rw t

-- ---- a depot in a row of orders

module _ (m row j : ℕ) where
  pub depot-below : j < 1 → false ≡ ordered m row j
  unfolding ordered within ◌&◌
  depot-below l = rw (lt-leb 1 j l)

  pub depot-beyond : 1 ≤ j → m < j → false ≡ ordered m row j
  unfolding ordered within ◌&◌
  depot-beyond a l = rw (le-leb 1 j a, lt-leb j m l)

  pub depot-marked : 1 ≤ j → j ≤ m → is_marked row (j - 1) ≡ ordered m row j
  unfolding ordered within ◌&◌
  depot-marked a b = rw (le-leb 1 j a, le-leb j m b)

-- whoever is open is on the list
pub open-listed : (h e rows : List ℕ) (i j : ℕ) → open_at h e rows i j ≡ true → 0 < place (wishes_of h e i) j
unfolding open_at
open-listed h e rows i j t = ltb-true 0 (place (wishes_of h e i) j) (and_left _ _ t)

pub open-depot : (h e rows : List ℕ) (i j : ℕ) → FullTables h e → open_at h e rows i j ≡ true → In (m_of h) j
open-depot h e rows i j ft t = on_list (In (m_of h)) (wishes_of h e i) j (open-listed h e rows i j t) (ft.trainee_names i)

-- ---- the part of a depot's list above a trainee, r the list, o the place found on it and d where the part ends

ends-at : (o : rust.Option ℕ) → unwrap_or o 0 ≡ place_of o - 1
ends-at rust.None = omega arith
ends-at (rust.Some p) = omega arith

module _ (h e : List ℕ) (i j : ℕ) (r : List ℕ) (er : r ≡ ranking_of h e j) (o : rust.Option ℕ) (eo : place_of o ≡ place r i) (d : ℕ) (ed : d ≡ unwrap_or o 0) where
  end-is : d ≡ place r i - 1
  end-is = ed ∙ ends-at o ∙ ap (λ p. p - 1) eo

  pub above-inside : d ≡ length (take d r)
  above-inside = sym (length-take-le d r (omega (arith, end-is, place-le r i)))

  pub above-is : take d r ≡ above_of h e i j
  unfolding above_of
  above-is = rw (end-is, er)

no-place : (o : rust.Option ℕ) → is_some o ≡ false → place_of o ≡ 0
no-place rust.None z = refl
no-place (rust.Some p) z = absurd (true≢false z)

some-place : (o : rust.Option ℕ) → is_some o ≡ true → 0 < place_of o
some-place rust.None t = absurd (false≢true t)
some-place (rust.Some p) t = omega arith

module _ (h e rows : List ℕ) (i j : ℕ) (ft : FullTables h e) (a : List ℕ) (ea : a ≡ above_of h e i j) where
  above-named : Names (n_of h) a
  unfolding above_of
  above-named = rw ea (names-take (n_of h) (place (ranking_of h e j) i - 1) (ranking_of h e j) (ft.depot_names j))

  above-short : length a ≤ 65535
  unfolding above_of
  above-short = omega (arith, ap length ea, length-take (place (ranking_of h e j) i - 1) (ranking_of h e j), ft.depot_short j)

  pub above-ready : Names (n_of h) a × (length a ≤ 65535)
  above-ready = (above-named, above-short)

  pub posts-counted : (posts c : ℕ) → posts ≡ posts_of h j → c ≡ count_in (settled h e rows 1 j) a
      → leb posts c ≡ leb (posts_of h j) (count_in (settled h e rows 1 j) (above_of h e i j))
  posts-counted posts c ps cs = rw (← ea, ps, cs)

  module _ (k : ℕ) (o : rust.Option ℕ) (eo : place_of o ≡ place a k) where
    pub not-above : is_some o ≡ false → ltb 0 (place (above_of h e i j) k) ≡ false
    not-above z = let q : place a k ≡ 0 = sym eo ∙ no-place o z in rw (← ea, q)

    on-part : is_some o ≡ true → 0 < place a k
    on-part t = omega (arith, eo, some-place o t)

    pub is-above : is_some o ≡ true → ltb 0 (place (above_of h e i j) k) ≡ true
    is-above t = rw (← ea) (lt-ltb 0 (place a k) (on-part t))

    pub above-trainee : is_some o ≡ true → In (n_of h) k
    above-trainee t = on_list (In (n_of h)) a k (on-part t) above-named

-- ---- how far is far enough for reason 4 and for kind 2

down-same : (far : Far) → sameb the_type far Far.Down ≡ partial_le partial_cmp-value.it Far.Down far
down-same Far.Short = refl
down-same Far.Above = refl
down-same Far.Down = refl

pub down-far : (h e rows : List ℕ) (j k : ℕ) (far : Far) → far_number far ≡ settled_by (settled h e rows 1 j k) (settled h e rows 0 j k) → sameb the_type far Far.Down ≡ settled h e rows 0 j k
down-far h e rows j k far ef = down-same far ∙ passes-down h e rows (k ∷ []) j 0 k far refl ef

-- ---- the step

module _ (h e holds bars rows : List ℕ) (s : Strike) where
  pub step-shut : open_at h e rows s.trainee s.depot ≡ false → false ≡ may_strike h e holds bars rows s
  unfolding may_strike
  step-shut u = and-stops _ u

  pub step-open : open_at h e rows s.trainee s.depot ≡ true → fits_in h e holds bars rows s.trainee s.depot s.reason ≡ may_strike h e holds bars rows s
  unfolding may_strike
  step-open t = and-goes _ t

  pub step-opened : may_strike h e holds bars rows s ≡ true → open_at h e rows s.trainee s.depot ≡ true
  unfolding may_strike
  step-opened t = and_left _ _ t

-- the place that is marked, found on the list w
module _ (h e holds bars rows : List ℕ) (s : Strike) (t : may_strike h e holds bars rows s ≡ true) (i j : ℕ) (w : List ℕ)
    (ei : i ≡ s.trainee) (ej : j ≡ s.depot) (ew : w ≡ wishes_of h e i) where
  its-place : place w j ≡ place (wishes_of h e s.trainee) s.depot
  its-place = rw (ew, ei, ej)

  pub mark-listed : 0 ≡ place w j → ⊥
  mark-listed z = omega (arith, its-place, open-listed h e rows s.trainee s.depot (step-opened h e holds bars rows s t))

  module _ (p : ℕ) (ep : suc p ≡ place w j) where
    pub mark-in-row : FullTables h e → p < 64
    mark-in-row ft = omega (arith, its-place, place-le (wishes_of h e s.trainee) s.depot, ft.trainee_short s.trainee)

    pub mark_made : set rows i (with_mark (get_or rows i 0) p) ≡ rows_with h e rows s
    unfolding rows_with
    mark_made = let q : p ≡ place (wishes_of h e s.trainee) s.depot - 1 = omega (arith, its-place) in rw (ei, q)
