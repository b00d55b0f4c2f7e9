-- Which pairs are open by the rows, and the left table as it is laid cell by cell.
-- Assumes nothing.
use Prim.Native.Nat.{ℕ, zero, suc, ◌+◌, ◌-◌, ◌<◌}
use mathlib.Core.Path.{◌≡◌, refl, sym, ap, ◌∙◌, subst}
use mathlib.Core.Logic.{⊎_elim}
use mathlib.Core.Bool.{Bool, true, false, not}
use mathlib.Core.List.{List, [], ◌∷◌}
use native.Mathlib.Omega.{arith}
use lib.ListN.{length-set, length, get_or, set, get_or-eq_default}
use lib.Seq.{get_or-set_same, get_or-set_other}
use lib.Dec.{ltb}
use denote.Bor.{Bor}
use borrow.Author.Tests.{ltb-true, ltb-false, lt-ltb, not-true}
use Rattle.std.specs.Prelude as rust
use Rattle.std.specs.Option.{is_some, unwrap_or, option_copied, IfSome}
use Rattle.std.proofs.lemmas.List.{get_or_read}
use Rattle.meaning.specs.Numbers.{In, ◌&◌}
use Rattle.meaning.specs.Lists.{place}
use Rattle.meaning.specs.Strikes.{Struck, left?, first_left}
use Rattle.meaning.specs.Market.{Market}
use Rattle.meaning.proofs.Numbers.{same}
use Rattle.meaning.proofs.Booleans.{never, is_false, iff, and_left, and_right, and_intro}
use Rattle.meaning.proofs.Left.{left-pair}
use Rattle.rows.specs.Marks.{is_marked}
use Rattle.rows.specs.Left.{first_place_left}
use Rattle.rows.proofs.FirstPlace.{before-first-marked, first-unmarked}
use Rattle.ranks.specs.View.{n_of, wishes_of, market_of, FullTables}
use Rattle.ranks.proofs.Places.{place-le, at_place}
use Rattle.ranks.proofs.Tables.{ranged-tables}
use Rattle.reasons.specs.Rows.{RowsHold}
use Rattle.reasons.proofs.Settled.{left_at, marked-at}
use Rattle.reasons.specs.Left.{open_at, left_cell, LaidTo}

-- ---- a place of a trainee's list, p the place found on the list w, counted from 0

module _ (h e rows : List ℕ) (i j : ℕ) (w : List ℕ) (ew : w ≡ wishes_of h e i) where
  pub not_listed : 0 ≡ place w j → false ≡ open_at h e rows i j
  unfolding open_at ◌&◌
  not_listed z = rw (← ew, ← z)

  module _ (p : ℕ) (ep : suc p ≡ place w j) where
    place_is : place (wishes_of h e i) j ≡ suc p
    place_is = ap (λ (l : List ℕ). place l j) (sym ew) ∙ sym ep

    pub listed-in-row : FullTables h e → p < 64
    listed-in-row ft = omega (arith, place_is, place-le (wishes_of h e i) j, ft.trainee_short i)

    pub listed-open : (b : Bool) → b ≡ is_marked (get_or rows i 0) p → not b ≡ open_at h e rows i j
    unfolding open_at ◌&◌
    listed-open b eb = let z : suc p - 1 ≡ p = omega arith in rw (place_is, z, lt-ltb 0 (suc p) (omega arith), eb)

-- ---- an open pair is a pair left

-- the place of a depot that a trainee ranks is one of the row's
module _ (h e : List ℕ) (ft : FullTables h e) (i j : ℕ) (l : 0 < place (wishes_of h e i) j) where
  pub its-place : get_or (wishes_of h e i) (place (wishes_of h e i) j - 1) 0 ≡ j
  its-place = at_place (wishes_of h e i) j (place (wishes_of h e i) j - 1) (omega arith)

  pub on-its-list : place (wishes_of h e i) j - 1 < length (wishes_of h e i)
  on-its-list = omega (arith, place-le (wishes_of h e i) j)

  in-its-row : place (wishes_of h e i) j - 1 < 64
  in-its-row = omega (arith, on-its-list, ft.trainee_short i)

module _ (h e : List ℕ) (ft : FullTables h e) (S : Struck) (rows : List ℕ) (hold : RowsHold (market_of h e) (wishes_of h e) S rows) where
  -- a place without a mark is a pair left
  pub open-same : (i j : ℕ) → In (n_of h) i → open_at h e rows i j ≡ left? (market_of h e) S i j
  unfolding open_at market_of
  open-same i j ri = iff there back
    where
      there : (ltb 0 (place (wishes_of h e i) j) & not (is_marked (get_or rows i 0) (place (wishes_of h e i) j - 1))) ≡ true → left? (market_of h e) S i j ≡ true
      there t =
          let l = ltb-true 0 (place (wishes_of h e i) j) (and_left _ _ t) in
          subst (λ x. left? (market_of h e) S i x ≡ true) (its-place h e ft i j l)
          (left_at (market_of h e) (ranged-tables h e ft) (wishes_of h e) (λ i j. refl) ft.trainee_short S rows hold i _ ri (in-its-row h e ft i j l)
          (not-true _ (and_right (ltb 0 (place (wishes_of h e i) j)) _ t))).left

      back : left? (market_of h e) S i j ≡ true → (ltb 0 (place (wishes_of h e i) j) & not (is_marked (get_or rows i 0) (place (wishes_of h e i) j - 1))) ≡ true
      back t =
          let l : 0 < place (wishes_of h e i) j = (left-pair (market_of h e) S i j t).ranks in
          and_intro (lt-ltb 0 (place (wishes_of h e i) j) l) (ap not (is_false _ (λ u. never t (subst (λ x. left? (market_of h e) S i x ≡ false) (its-place h e ft i j l)
          (marked-at (market_of h e) (ranged-tables h e ft) (wishes_of h e) (λ i j. refl) ft.trainee_short S rows hold i _ ri (in-its-row h e ft i j l) u (on-its-list h e ft i j l))))))

-- ---- the left table

-- what a list has at p, or 0
got : (w : List ℕ) (p : ℕ) (o : rust.Option (Bor ℕ)) → is_some o ≡ ltb p (length w) → IfSome o (λ x. x.now ≡ get_or w p x.now) → unwrap_or (option_copied o) 0 ≡ get_or w p 0
got w p rust.None e v = sym (get_or-eq_default w 0 (ltb-false p (length w) (sym e)))
got w p (rust.Some x) e v = get_or_read w p x.now (ltb-true p (length w) (sym e)) v 0

pub left_there : (h e rows : List ℕ) (i p : ℕ) (w : List ℕ) → w ≡ wishes_of h e i → p ≡ first_place_left (get_or rows i 0)
    → (o : rust.Option (Bor ℕ)) → is_some o ≡ ltb p (length w) → IfSome o (λ x. x.now ≡ get_or w p x.now) → unwrap_or (option_copied o) 0 ≡ left_cell h e rows i
unfolding left_cell
left_there h e rows i p w ew ep o eo v = got w p o eo v ∙ rw (ew, ep)

-- the first left on a list stands at f, where all before f are struck or strangers and f isn't
first-left-at : (K : Market) (S : Struck) (i : ℕ) (l : List ℕ) (f : ℕ) → ((p : ℕ) → p < f → p < length l → left? K S i (get_or l p 0) ≡ false)
    → (f < length l → left? K S i (get_or l f 0) ≡ true) → first_left K S i l ≡ get_or l f 0
unfolding first_left
first-left-at K S i [] f h g = refl
first-left-at K S i (j ∷ js) zero h g = rw (g (omega arith), first_left)
first-left-at K S i (j ∷ js) (suc f) h g =
    let u : left? K S i j ≡ false = h 0 (omega arith) (omega arith) in
    rw (u, first_left) (first-left-at K S i js f (λ p a b. h (suc p) (omega arith) (omega arith)) (λ a. g (omega arith)))

module _ (h e : List ℕ) (ft : FullTables h e) (S : Struck) (rows : List ℕ) (hold : RowsHold (market_of h e) (wishes_of h e) S rows) where
  pub cell-same : (i : ℕ) → In (n_of h) i → left_cell h e rows i ≡ first_left (market_of h e) S i (wishes_of h e i)
  unfolding left_cell market_of
  cell-same i ri = sym (first-left-at (market_of h e) S i (wishes_of h e i) (first_place_left (get_or rows i 0))
      (λ p a b. marked-at (market_of h e) (ranged-tables h e ft) (wishes_of h e) (λ i j. refl) ft.trainee_short S rows hold i p ri (omega (arith, ft.trainee_short i)) (before-first-marked (get_or rows i 0) p a) b)
      (λ b. (left_at (market_of h e) (ranged-tables h e ft) (wishes_of h e) (λ i j. refl) ft.trainee_short S rows hold i _ ri (omega (arith, ft.trainee_short i)) (first-unmarked (get_or rows i 0))).left))

-- no cell is laid yet
pub laid_none : (h e rows old : List ℕ) → LaidTo h e rows old 0 old
laid_none h e rows old = record { long = refl; filled = λ q l. absurd (omega arith); untouched = λ q l. refl }

pub laid_more : (h e rows old : List ℕ) (k : ℕ) (table : List ℕ) → k < length table → LaidTo h e rows old k table → (x : ℕ) → x ≡ left_cell h e rows (k + 1) → LaidTo h e rows old (k + 1) (set table k x)
laid_more h e rows old k table l inv x ex = record {
  long = length-set table k x ∙ inv.long;
  filled = λ q u. ⊎_elim
      (λ (z : q ≡ k). rw z (get_or-set_same table k x 0 l ∙ ex))
      (λ n. get_or-set_other table k q x 0 n ∙ inv.filled q (omega arith))
      (same q k);
  untouched = λ q u. get_or-set_other table k q x 0 (λ z. omega arith) ∙ inv.untouched q (omega arith);
}
