-- One law for each way through the code of an ending.
-- Assumes nothing.

-- ---- a test of 1 to n, from 1 on

use Prim.Native.Nat.{ℕ, zero, suc, ◌+◌, ◌-◌, ◌≤◌, ◌<◌}
use mathlib.Core.Path.{◌≡◌, refl, sym, ap, ap₂, ◌∙◌, subst}
use mathlib.Core.Logic.{⊎_elim}
use mathlib.Core.Bool.{Bool, true, false, not, ◌&&◌, true≢false, false≢true}
use mathlib.Core.Option.{Option, none, some}
use lib.Pointwise.{pointwise}
use Rattle.std.specs.Prelude as rust
use Rattle.std.specs.Option.{is_some}
use mathlib.Core.List.{List, [], ◌∷◌, ◌++◌}
use native.Mathlib.Omega.{arith}
use native.Mathlib.Numerals.{add-one}
use lib.ListN.{length, get_or, take}
use lib.Seq.{take-suc}
use lib.Dec.{ltb, eqb}
use borrow.Author.Tests.{ltb-true, ltb-false, le-leb, lt-leb, eqb-true, eq-eqb, ne_eqb, not-true, not-false}
use Rattle.checker.specs.Step.{ordered}
use Rattle.reasons.specs.Left.{open_at, left_cell, LaidTo}
use Rattle.checker.specs.Ends.{left_cells, tells_stable, obeys_rows, all_obey, table_fits, placed_in, broken_in, room_at, room_in}
use Rattle.checker.proofs.Ways.{and-stops, and-goes}
use Rattle.stability.specs.Search.{found_of, Counts}
use Rattle.meaning.specs.Numbers.{In, ◌&◌, imp, all}
use Rattle.meaning.specs.Market.{Market, Table, mutual?, placed, Stable}
use Rattle.meaning.specs.Endings.{table_of, within?, stable?, same_cells}
use Rattle.meaning.specs.Stability.{first_over, test_by}
use Rattle.meaning.specs.Truth.{TestSays, says_stable, says_stranger, says_over, says_blocking}
use Rattle.meaning.proofs.Booleans.{true-or-false, never, is_false, iff, and_left, and_right, and_intro, imp_use, imp_intro}
use Rattle.meaning.proofs.Numbers.{order, same, all-use, all-intro, Smallest, least, no-least, smallest-is}
use Rattle.meaning.proofs.Pairs.{mutual-is}
use Rattle.meaning.proofs.Matchings.{stable-is, is-stable}
use Rattle.meaning.proofs.Stability.{test-says}
use Rattle.rows.specs.Marks.{is_marked, with_mark, turned}
use Rattle.rows.specs.Left.{first_place_left}
use Rattle.rows.proofs.Marking.{marked-at-place, marked-elsewhere, turned-at}
use Rattle.rows.proofs.FirstPlace.{first-at-most, before-first-marked, first-unmarked}
use Rattle.ranks.specs.View.{n_of, m_of, wishes_of, posts_of, market_of, FullTables}
use Rattle.ranks.proofs.Tables.{ranged-tables}
use Rattle.reasons.specs.Reasons.{settled}
use Rattle.meaning.specs.declared.Tested.{Tested}

module _ (f : ℕ → Bool) where
  -- the first k pass
  abbrev pub Passed : ℕ → Type 0
  Passed k = (i : ℕ) → In k i → f i ≡ true

  pub passed-more : (k : ℕ) → Passed k → f (k + 1) ≡ true → Passed (k + 1)
  passed-more k p t i r = ⊎_elim
      (λ (l : i ≤ k). p i (record { low = r.low; high = l }))
      (λ (l : k < i). let e : i ≡ k + 1 = omega (arith, r.high) in rw e t)
      (order i k)

  pub passed-all : (n : ℕ) → Passed n → true ≡ all n f
  passed-all n p = sym (all-intro n f p)

  pub passed-not : (n k : ℕ) → k < n → f (k + 1) ≡ false → false ≡ all n f
  passed-not n k l u = sym (is_false _ (λ t. never (all-use n f t (k + 1) (record { low = omega arith; high = omega arith })) u))

-- ---- the left table

-- the front of a table that is laid
module _ (h e rows old table : List ℕ) (n : ℕ) (laid : LaidTo h e rows old n table) (fits : n ≤ length old) where
  front-to : (k : ℕ) → k ≤ n → take k table ≡ left_cells h e rows k
  unfolding left_cells
  front-to zero l = refl
  front-to (suc k) l = take-suc table k 0 (omega (arith, laid.long)) ∙ ap₂ (λ (c : List ℕ) (x : ℕ). c ++ (x ∷ [])) (front-to k (omega arith)) (laid.filled k l ∙ ap (left_cell h e rows) (add-one k))

  pub laid-front : take n table ≡ left_cells h e rows n
  laid-front = front-to n (omega arith)

-- ---- the same cells

same-both : (b c d : Bool) → c ≡ d → (b && c) ≡ (b & d)
unfolding ◌&◌
same-both true c d e = e
same-both false c d e = refl

pub same-is : (a b : List ℕ) → pointwise eqb a b ≡ same_cells a b
unfolding same_cells
same-is [] [] = refl
same-is [] (y ∷ ys) = refl
same-is (x ∷ xs) [] = refl
same-is (x ∷ xs) (y ∷ ys) = same-both (eqb x y) _ _ (same-is xs ys)

-- ---- no depot over its posts

module _ (K : Market) (M : Table) where
  abbrev none? : Option ℕ → Bool
  none? none = true
  none? (some j) = false

  within-smallest : (o : Option ℕ) → Smallest K.m (λ j. ltb (K.posts j) (placed K M j)) o → within? K M ≡ none? o
  unfolding within?
  within-smallest _ (least j r t h) = is_false _ (λ w. never (all-use K.m _ w j r) (lt-leb (placed K M j) (K.posts j) (ltb-true _ _ t)))
  within-smallest _ (no-least h) = all-intro K.m _ (λ j r. le-leb (placed K M j) (K.posts j) (ltb-false _ _ (h j r)))

  none-found : (o : rust.Option ℕ) (b : Bool) → is_some o ≡ not b → b ≡ none? (found_of o)
  unfolding found_of
  none-found rust.None true e = refl
  none-found rust.None false e = absurd (false≢true e)
  none-found (rust.Some j) true e = absurd (true≢false e)
  none-found (rust.Some j) false e = refl

  -- o is what the search for the first depot over its posts finds
  pub within-first : (o : rust.Option ℕ) → found_of o ≡ first_over K M → (b : Bool) → is_some o ≡ not b → within? K M ≡ b
  unfolding first_over
  within-first o eo b eb = within-smallest _ (smallest-is K.m (λ j. ltb (K.posts j) (placed K M j))) ∙ ap none? (sym eo) ∙ sym (none-found o b eb)

-- ---- the named pair of kind 2

module _ (h e : List ℕ) (ft : FullTables h e) (i j : ℕ) where
  pub room-depot : mutual? (market_of h e) i j ≡ true → In (m_of h) j
  unfolding market_of
  room-depot t = (ranged-tables h e ft).depot_in_range i j (mutual-is (market_of h e) i j t).ranks

  -- by the counts of all depots
  pub room-counted : (rows cells counts : List ℕ) → Counts (table_of cells) (n_of h) counts
      → (mutual? (market_of h e) i j & (settled h e rows 0 j i & ltb (get_or counts j 0) (posts_of h j))) ≡ room_at h e rows cells i j
  unfolding room_at placed market_of
  room-counted rows cells counts counted = ⊎_elim
      (λ (t : mutual? (market_of h e) i j ≡ true).
      let k : j ≤ 64 = omega (arith, (room-depot t).high, ft.few_depots) in
      ap (λ (c : ℕ). mutual? (market_of h e) i j & (settled h e rows 0 j i & ltb c (posts_of h j))) (placed-count j k))
      (λ (u : mutual? (market_of h e) i j ≡ false). sym (and-stops _ u) ∙ and-stops _ u)
      (true-or-false (mutual? (market_of h e) i j))
    where
      placed-count : (j : ℕ) → j ≤ 64 → get_or counts j 0 ≡ placed (market_of h e) (table_of cells) j
      placed-count j l = counted j l

-- ---- held and barred pairs

and-true : (b : Bool) → (b & true) ≡ b
unfolding ◌&◌
and-true true = refl
and-true false = refl

and-false : (b : Bool) → (b & false) ≡ false
unfolding ◌&◌
and-false true = refl
and-false false = refl

module _ (held barred c : ℕ) where
  -- depot j is as the rows ask
  asked : ℕ → Bool
  asked j = imp (is_marked held (j - 1)) (eqb j c) & imp (is_marked barred (j - 1)) (not (eqb j c))

  obeys-all : ((j : ℕ) → In 64 j → asked j ≡ true) → obeys_rows held barred c ≡ true
  unfolding obeys_rows asked
  obeys-all f = all-intro 64 asked f

  obeys-each : obeys_rows held barred c ≡ true → (j : ℕ) → In 64 j → asked j ≡ true
  unfolding obeys_rows asked
  obeys-each t = all-use 64 asked t

  pub obeys-barred : 1 ≤ c → c ≤ 64 → is_marked barred (c - 1) ≡ true → false ≡ obeys_rows held barred c
  unfolding asked
  obeys-barred l u t = sym (is_false _ (λ o. never (eq-eqb c c refl) (not-true _ (imp_use _ _ (and_right (imp (is_marked held (c - 1)) (eqb c c)) _ (obeys-each o c (record { low = l; high = u }))) t))))

  -- a row with marks but at the places of the holds elsewhere: all is as asked exactly if nothing is left in it
  module _ (row p : ℕ) (ep : p ≡ first_place_left row) (elsewhere : (q : ℕ) → q < 64 → is_marked row q ≡ not (is_marked held q & not (eqb (q + 1) c)))
      (allowed : (j : ℕ) → In 64 j → imp (is_marked barred (j - 1)) (not (eqb j c)) ≡ true) where
    obeys-row : eqb p 64 ≡ obeys_rows held barred c
    unfolding asked
    obeys-row = iff there back
      where
        there : eqb p 64 ≡ true → obeys_rows held barred c ≡ true
        there t = obeys-all (λ j r.
            let z : j - 1 + 1 ≡ j = omega (arith, r.low) in
            let m = before-first-marked row (j - 1) (omega (arith, r.low, r.high, eqb-true p 64 t)) in
            let u = not-true _ (sym (elsewhere (j - 1) (omega (arith, r.low, r.high))) ∙ m) in
            and_intro (imp_intro _ _ (λ a. ⊎_elim (λ (x : eqb j c ≡ true). x) (λ (x : eqb j c ≡ false). absurd (never (and_intro a (ap not (ap (λ k. eqb k c) z ∙ x))) u)) (true-or-false (eqb j c)))) (allowed j r))

        back : obeys_rows held barred c ≡ true → eqb p 64 ≡ true
        back t = eq-eqb p 64 (⊎_elim
            (λ (l : 64 ≤ p). omega (arith, first-at-most row))
            (λ (l : p < 64). absurd (
            let z : p + 1 - 1 ≡ p = omega arith in
            let u : is_marked row p ≡ false = rw ep (first-unmarked row) in
            let a = not-false _ (sym (elsewhere p l) ∙ u) in
            let o = obeys-each t (p + 1) (record { low = omega arith; high = omega arith }) in
            never (imp_use _ _ (and_left _ _ o) (rw z (and_left _ _ a))) (not-true _ (and_right (is_marked held p) _ a))))
            (order 64 p))

  -- nobody is barred from no depot, and whoever has none may be held nowhere
  pub obeys-none : c ≡ 0 → (p : ℕ) → p ≡ first_place_left (turned held) → eqb p 64 ≡ obeys_rows held barred c
  unfolding ◌&◌
  obeys-none z p ep = obeys-row (turned held) p ep
      (λ q l. turned-at held q l ∙ rw (ne_eqb (q + 1) c (λ x. omega arith)) (ap not (sym (and-true (is_marked held q)))))
      (λ j r. imp_intro _ _ (λ _. ap not (ne_eqb j c (λ x. omega (arith, r.low)))))

  pub obeys-there : 1 ≤ c → c ≤ 64 → is_marked barred (c - 1) ≡ false → (p : ℕ) → p ≡ first_place_left (with_mark (turned held) (c - 1)) → eqb p 64 ≡ obeys_rows held barred c
  obeys-there l u b p ep = obeys-row (with_mark (turned held) (c - 1)) p ep
      (λ q v. ⊎_elim
      (λ (x : q ≡ c - 1). let y : q + 1 ≡ c = omega arith in rw (x, eq-eqb (c - 1 + 1) c (omega arith)) (marked-at-place (turned held) (c - 1) (omega arith) ∙ ap not (sym (and-false (is_marked held (c - 1))))))
      (λ n. marked-elsewhere (turned held) (c - 1) q n ∙ turned-at held q v ∙ rw (ne_eqb (q + 1) c (λ x. n (omega arith))) (ap not (sym (and-true (is_marked held q)))))
      (same q (c - 1)))
      (λ j r. imp_intro _ _ (λ t. ap not (ne_eqb j c (λ x. never (subst (λ k. is_marked barred (k - 1) ≡ true) x t) b))))

-- trainee k + 1 obeys their rows
pub obeys-at : (holds bars cells : List ℕ) (k c : ℕ) (b : Bool) → c ≡ get_or cells k 0 → b ≡ obeys_rows (get_or holds (k + 1) 0) (get_or bars (k + 1) 0) c
    → obeys_rows (get_or holds (k + 1) 0) (get_or bars (k + 1) 0) (table_of cells (k + 1)) ≡ b
unfolding table_of
obeys-at holds bars cells k c b ec eb = sym (eb ∙ rw (ec, add-one k))

-- ---- the named pair of kind 1

module _ (h e holds rows : List ℕ) (i j m : ℕ) (em : m ≡ m_of h) where
  pub broken-not : false ≡ ordered m (get_or holds i 0) j → false ≡ broken_in h e holds rows i j
  unfolding broken_in
  broken-not u = and-stops _ (sym (u ∙ rw em))

  pub broken-by : true ≡ ordered m (get_or holds i 0) j → (o : Bool) → o ≡ open_at h e rows i j → not o ≡ broken_in h e holds rows i j
  unfolding broken_in
  broken-by t o eo = ap not eo ∙ and-goes _ (sym (t ∙ rw em))

-- ---- what the stability test says

not-stable : (t : Tested) → (t ≡ Tested.Stable → ⊥) → tells_stable t ≡ false
unfolding tells_stable
not-stable Tested.Stable n = absurd (n refl)
not-stable (Tested.NotMutual i) n = refl
not-stable (Tested.OverPosts j) n = refl
not-stable (Tested.Blocking i j) n = refl

stable-same : (h e : List ℕ) → FullTables h e → (M : Table) → tells_stable (test_by (market_of h e) (wishes_of h e) M) ≡ stable? (market_of h e) M
unfolding tells_stable market_of
stable-same h e ft M = go _ (test-says (market_of h e) (ranged-tables h e ft) (wishes_of h e) (λ i j. refl) M)
  where
    unstable : (Stable (market_of h e) M → ⊥) → false ≡ stable? (market_of h e) M
    unstable n = sym (is_false _ (λ t. n (stable-is (market_of h e) (ranged-tables h e ft) M t)))

    go : (t : Tested) → TestSays (market_of h e) M t → tells_stable t ≡ stable? (market_of h e) M
    go _ (says_stable s) = sym (is-stable (market_of h e) (ranged-tables h e ft) M s)
    go _ (says_stranger i w) = unstable (λ s. w.stranger (s.matching.pairs i w.inside w.has))
    go _ (says_over j w) = unstable (λ s. omega (arith, w.over, s.matching.within j w.inside))
    go _ (says_blocking i j w) = unstable (λ s. s.unblocked i j w.blocks)

-- the depot of trainee k + 1 in a stable table
seat-low : (h e : List ℕ) → FullTables h e → (cells : List ℕ) → stable? (market_of h e) (table_of cells) ≡ true → (k : ℕ) → k < n_of h → get_or cells k 0 ≤ 64
unfolding table_of market_of
seat-low h e ft cells t k l = ⊎_elim
    (λ (z : get_or cells k 0 ≤ 0). omega arith)
    (λ (z : 0 < get_or cells k 0).
    let m = (stable-is (market_of h e) (ranged-tables h e ft) (table_of cells) t).matching.pairs (suc k) (record { low = omega arith; high = l }) z in
    omega (arith, ((ranged-tables h e ft).depot_in_range (suc k) (get_or cells k 0) m.ranks).high, ft.few_depots))
    (order (get_or cells k 0) 0)

-- ---- the left table in the front of an array

module _ (h e rows : List ℕ) (cells : List ℕ) (ec : cells ≡ left_cells h e rows (n_of h)) (i j : ℕ) where
  pub room-over : within? (market_of h e) (table_of cells) ≡ false → false ≡ room_in h e rows i j
  unfolding room_in
  room-over u = and-stops _ (ap (λ (l : List ℕ). within? (market_of h e) (table_of l)) (sym ec) ∙ u)

  pub room_within : within? (market_of h e) (table_of cells) ≡ true → room_at h e rows cells i j ≡ room_in h e rows i j
  unfolding room_in
  room_within t = ap (λ (l : List ℕ). room_at h e rows l i j) ec ∙ and-goes _ (ap (λ (l : List ℕ). within? (market_of h e) (table_of l)) (sym ec) ∙ t)

-- ---- placed: the cells against the ruling's table

module _ (h e holds bars table cells : List ℕ) (long : length cells ≡ n_of h) where
  table_is : same_cells (take (n_of h) table) cells ≡ pointwise eqb (take (length cells) table) cells
  table_is = sym (same-is (take (length cells) table) cells ∙ ap (λ k. same_cells (take k table) cells) long)

  pub placed-other : true ≡ not (pointwise eqb (take (length cells) table) cells) → false ≡ table_fits h e holds bars cells table
  unfolding table_fits
  placed-other u = and-stops _ (table_is ∙ not-true _ (sym u))

  module _ (same : false ≡ not (pointwise eqb (take (length cells) table) cells)) (ft : FullTables h e) where
    cells-same : same_cells (take (n_of h) table) cells ≡ true
    cells-same = table_is ∙ not-false _ (sym same)

    pub placed-unstable : (t : Tested) → t ≡ test_by (market_of h e) (wishes_of h e) (table_of cells) → (t ≡ Tested.Stable → ⊥) → false ≡ table_fits h e holds bars cells table
    unfolding table_fits
    placed-unstable t et n = and-stops _ (sym (stable-same h e ft (table_of cells)) ∙ ap tells_stable (sym et) ∙ not-stable t n) ∙ and-goes _ cells-same

    module _ (stable : Tested.Stable ≡ test_by (market_of h e) (wishes_of h e) (table_of cells)) where
      cells-stable : stable? (market_of h e) (table_of cells) ≡ true
      unfolding tells_stable
      cells-stable = sym (stable-same h e ft (table_of cells)) ∙ ap tells_stable (sym stable)

      pub placed-obeys : (r : Bool) → r ≡ all_obey (n_of h) holds bars cells → r ≡ table_fits h e holds bars cells table
      unfolding table_fits
      placed-obeys r er = er ∙ and-goes _ cells-stable ∙ and-goes _ cells-same

      -- the depots of a stable table have places in the order rows
      pub obey-ready : (k : ℕ) → k < length cells → get_or cells k 0 ≤ 64
      obey-ready k l = seat-low h e ft cells cells-stable k (omega (arith, long))

pub placed-left : (h e holds bars rows table cells : List ℕ) (r : Bool) → cells ≡ left_cells h e rows (n_of h) → r ≡ table_fits h e holds bars cells table → r ≡ placed_in h e holds bars rows table
unfolding placed_in
placed-left h e holds bars rows table cells r ec er = er ∙ rw ec
