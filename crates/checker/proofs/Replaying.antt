-- A replay, turn by turn: an allowed strike's mark keeps the rows true, and what is still to be answered comes from the strikes that follow.
-- Assumes nothing.

-- ---- one mark

use Prim.Native.Nat.{ℕ, zero, suc, ◌+◌, ◌-◌, ◌≤◌, ◌<◌}
use mathlib.Core.Path.{◌≡◌, refl, sym, ap, ◌∙◌, subst}
use mathlib.Core.Logic.{◌⊎◌, inl, inr, ⊎_elim}
use mathlib.Core.Bool.{Bool, true, false, not}
use mathlib.Core.List.{List, [], ◌∷◌, ◌++◌, append_assoc, append-nil}
use native.Mathlib.Omega.{arith}
use native.Mathlib.Nat.{add-zero}
use native.Mathlib.Numerals.{add-one}
use lib.ListN.{length-set, length, get_or, set}
use lib.Seq.{get_or-set_same, get_or-set_other}
use lib.Dec.{ltb}
use borrow.Author.Tests.{le-ltb}
use Rattle.std.specs.Prelude.{Ok, Err}
use Rattle.checker.specs.Step.{may_strike, rows_with}
use Rattle.checker.specs.Turns.{strikes_from, answer_from, Going}
use Rattle.checker.proofs.Ways.{open-listed, step-opened}
use Rattle.checker.proofs.Allowed.{its-place, on-its-list, step_same}
use Rattle.meaning.specs.Numbers.{In, ◌&◌}
use Rattle.meaning.specs.Lists.{place}
use Rattle.meaning.specs.Placement.{Order}
use Rattle.meaning.specs.Market.{Market, mutual?}
use Rattle.meaning.specs.Strikes.{Struck, nothing, allowed_strike, struck, left?}
use Rattle.meaning.specs.Endings.{Outcome, outcome_fits}
use Rattle.meaning.specs.Checker.{step_by, check_from}
use Rattle.meaning.proofs.Booleans.{iff}
use Rattle.meaning.proofs.Numbers.{order, same}
use Rattle.meaning.proofs.Records.{struck-last, struck-keeps, struck-new}
use Rattle.rows.specs.Marks.{is_marked, with_mark}
use Rattle.rows.proofs.Marking.{marked-at-place, marked-elsewhere}
use Rattle.ranks.specs.View.{n_of, wishes_of, market_of, Once, FullTables}
use Rattle.reasons.specs.Rows.{marked_at, RowsHold, standing_of, OrderRows}
use Rattle.strikes.specs.Cells.{strike_at, strikes_in}
use Rattle.meaning.specs.declared.Strike.{Strike}
use Rattle.meaning.specs.declared.Rejection.TheVariants.{NotAllowed}

struck-other : (S₀ : Struck) (rec : List Strike) (s : Strike) (k j : ℕ) → (s.trainee ≡ k → s.depot ≡ j → ⊥) → struck S₀ (rec ++ (s ∷ [])) k j ≡ struck S₀ rec k j
struck-other S₀ rec s k j n = iff
    (λ t. ⊎_elim (λ u. u) (λ q. absurd (n q.0 q.1)) (struck-last S₀ rec s k j t))
    (λ t. struck-keeps S₀ rec s k j t)

not-both : (a b : Bool) → not (a & (b & not true)) ≡ true
unfolding ◌&◌
not-both true true = refl
not-both true false = refl
not-both false b = refl

module _ (K : Market) (lists : ℕ → List ℕ) (once : (k : ℕ) → Once (lists k)) (short : (k : ℕ) → length (lists k) ≤ 64) (S₀ : Struck) (rec : List Strike)
    (rows : List ℕ) (hold : RowsHold K lists (struck S₀ rec) rows) (s : Strike) (p : ℕ) (inside : p < length (lists s.trainee))
    (its : get_or (lists s.trainee) p 0 ≡ s.depot) (long : s.trainee < length rows) where
  other_place : (k q : ℕ) → (k ≡ s.trainee → q ≡ p → ⊥) → marked_at K lists (struck S₀ rec) k q ≡ marked_at K lists (struck S₀ (rec ++ (s ∷ []))) k q
  unfolding marked_at left? ◌&◌
  other_place k q n = go (order (length (lists k)) q)
    where
      go : (length (lists k) ≤ q) ⊎ (q < length (lists k)) → marked_at K lists (struck S₀ rec) k q ≡ marked_at K lists (struck S₀ (rec ++ (s ∷ []))) k q
      go (inl l) = rw (le-ltb q (length (lists k)) l)
      go (inr l) = rw (struck-other S₀ rec s k (get_or (lists k) q 0) (λ a b.
          n (sym a) (let f = once k q l in
          let g = ap (place (lists k)) (sym b ∙ sym its) in
          let d = once s.trainee p inside in
          let c = ap (λ (z : ℕ). place (lists z) (get_or (lists s.trainee) p 0)) a in
          omega arith)))

  its-mark : marked_at K lists (struck S₀ (rec ++ (s ∷ []))) s.trainee p ≡ true
  unfolding marked_at left?
  its-mark = rw (its, struck-new S₀ rec s) (not-both (ltb p (length (lists s.trainee))) (mutual? K s.trainee s.depot))

  -- one more struck, one more mark
  pub rows-struck : RowsHold K lists (struck S₀ (rec ++ (s ∷ []))) (set rows s.trainee (with_mark (get_or rows s.trainee 0) p))
  unfolding RowsHold
  rows-struck k rk q l = go (same k s.trainee) (same q p)
    where
      go : (k ≡ s.trainee) ⊎ (k ≡ s.trainee → ⊥) → (q ≡ p) ⊎ (q ≡ p → ⊥)
          → is_marked (get_or (set rows s.trainee (with_mark (get_or rows s.trainee 0) p)) k 0) q ≡ marked_at K lists (struck S₀ (rec ++ (s ∷ []))) k q
      go (inl a) (inl b) = rw (a, b, get_or-set_same rows s.trainee (with_mark (get_or rows s.trainee 0) p) 0 long) (marked-at-place (get_or rows s.trainee 0) p (omega (arith, short s.trainee)) ∙ sym its-mark)
      go (inl a) (inr n) = rw (a, get_or-set_same rows s.trainee (with_mark (get_or rows s.trainee 0) p) 0 long)
          (marked-elsewhere (get_or rows s.trainee 0) p q n ∙ hold s.trainee (subst (In K.n) a rk) q l ∙ other_place s.trainee q (λ _ e. n e))
      go (inr n) b = rw (get_or-set_other rows s.trainee k (with_mark (get_or rows s.trainee 0) p) 0 n) (hold k rk q l ∙ other_place k q (λ e _. n e))

-- ---- the strikes behind

strikes-more : (cells : List ℕ) (k : ℕ) → strikes_in cells (k + 1) ≡ strikes_in cells k ++ (strike_at cells k ∷ [])
unfolding strikes_in
strikes-more cells k = rw (add-one k)

pub strikes-on : (cells : List ℕ) (d k : ℕ) → strikes_in cells k ++ strikes_from cells d k ≡ strikes_in cells (k + d)
unfolding strikes_in strikes_from
strikes-on cells zero k = rw (append-nil, add-zero)
strikes-on cells (suc d) k =
    let y : k + 1 + d ≡ k + suc d = omega arith in
    sym (append_assoc (strikes_in cells k) (strike_at cells k ∷ []) (strikes_from cells d (k + 1)))
    ∙ ap (λ (xs : List Strike). xs ++ strikes_from cells d (k + 1)) (sym (strikes-more cells k)) ∙ strikes-on cells d (k + 1) ∙ ap (strikes_in cells) y

module _ (h e holds bars cells : List ℕ) (count : ℕ) where
  from_first : strikes_in cells count ≡ strikes_from cells (count - 0) 0
  unfolding strikes_in
  from_first =
      let a : count - 0 ≡ count = omega arith in
      let b : 0 + count ≡ count = omega arith in
      rw a (sym (strikes-on cells count 0 ∙ ap (strikes_in cells) b))

  pub going-none : (rows : List ℕ) → n_of h < length rows → RowsHold (market_of h e) (wishes_of h e) (struck nothing []) rows → Going h e holds bars cells count 0 rows
  unfolding strikes_in
  going-none rows l hold = record {
    long = l;
    rows_hold = hold;
    onward = λ os out. ap (λ (xs : List Strike). answer_from h e holds bars os out [] xs 1) from_first;
  }

  -- after the last strike the ending decides
  pub going-ends : (rows : List ℕ) → Going h e holds bars cells count count rows → (os : List Order) (out : Outcome)
      → answer_from h e holds bars os out [] (strikes_in cells count) 1
      ≡ step_by (count + 1) (outcome_fits (market_of h e) (wishes_of h e) (standing_of h holds bars) os (struck nothing (strikes_in cells count)) out) (Ok tt)
  unfolding strikes_from check_from
  going-ends rows g os out = let z : count - count ≡ 0 = omega arith in g.onward os out ∙ rw (z, strikes_from, check_from)

  module _ (ft : FullTables h e) (orders : OrderRows h holds bars) (k : ℕ) (rows : List ℕ) (g : Going h e holds bars cells count k rows) (l : k < count)
      (s : Strike) (es : s ≡ strike_at cells k) (ri : In (n_of h) s.trainee) where
    left-now : count - k ≡ suc (count - (k + 1))
    left-now = omega arith

    step_is : may_strike h e holds bars rows s ≡ allowed_strike (market_of h e) (standing_of h holds bars) (struck nothing (strikes_in cells k)) (strike_at cells k)
    step_is = step_same h e ft (struck nothing (strikes_in cells k)) rows g.rows_hold holds bars orders s ri
        ∙ ap (λ x. allowed_strike (market_of h e) (standing_of h holds bars) (struck nothing (strikes_in cells k)) x) es

    -- a strike that isn't allowed settles the answer
    pub going-stops : may_strike h e holds bars rows s ≡ false → (os : List Order) (out : Outcome) → answer_from h e holds bars os out [] (strikes_in cells count) 1 ≡ Err (NotAllowed (k + 1))
    unfolding strikes_from check_from
    going-stops u os out = g.onward os out ∙ rw (left-now, strikes_from, check_from, sym step_is ∙ u)

    pub going_more : (rows' : List ℕ) → may_strike h e holds bars rows s ≡ true → rows' ≡ rows_with h e rows s → Going h e holds bars cells count (k + 1) rows'
    unfolding strikes_in strikes_from check_from rows_with
    going_more rows' t er = record {
      long = rw er (omega (arith, length-set rows s.trainee (with_mark (get_or rows s.trainee 0) (place (wishes_of h e s.trainee) s.depot - 1)), g.long));
      rows_hold = rw (er, strikes-more cells k) (subst (λ (x : Strike). RowsHold (market_of h e) (wishes_of h e) (struck nothing (strikes_in cells k ++ (x ∷ []))) (rows_with h e rows s)) es
          (rows-struck (market_of h e) (wishes_of h e) ft.trainee_once ft.trainee_short nothing (strikes_in cells k) rows g.rows_hold s (place (wishes_of h e s.trainee) s.depot - 1)
          (on-its-list h e ft s.trainee s.depot listed) (its-place h e ft s.trainee s.depot listed) (omega (arith, ri.high, g.long))));
      onward = λ os out. let a : k + 1 + 1 ≡ suc (k + 1) = omega arith in g.onward os out ∙ rw (left-now, strikes_from, check_from, sym step_is ∙ t, a, strikes-more cells k);
    }
      where
        listed : 0 < place (wishes_of h e s.trainee) s.depot
        listed = open-listed h e rows s.trainee s.depot (step-opened h e holds bars rows s t)
