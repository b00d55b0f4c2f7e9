-- One visit: what the code does to rows and cells is what the meaning does to the record.
-- Assumes nothing.
use Prim.Native.Nat.{ℕ, ◌+◌, ◌*◌, ◌≤◌, ◌<◌}
use mathlib.Core.Path.{◌≡◌, refl, sym, ap, ◌∙◌, subst}
use mathlib.Core.Logic.{◌⊎◌, inl, inr, ⊎_elim}
use mathlib.Core.Bool.{Bool, true, false, not}
use mathlib.Core.Option.{Option, none, some}
use mathlib.Core.List.{List, [], ◌∷◌, ◌++◌}
use native.Mathlib.Omega.{arith}
use native.Mathlib.Numerals.{add-one}
use lib.ListN.{length-set, length, get_or, set, length-append}
use lib.Seq.{get_or-set_same, get_or-set_other}
use lib.Dec.{ltb}
use borrow.Author.Tests.{lt-ltb, le-ltb, not-true, not-false}
use Rattle.solver.specs.Going.{Going, Came, visit_of}
use Rattle.solver.specs.Sweeping.{reason_in}
use Rattle.solver.proofs.Lawful.{lawful-tables, listed-tables, nothing-mutual}
use Rattle.meaning.specs.Numbers.{In, ◌&◌}
use Rattle.meaning.specs.Lists.{place}
use Rattle.meaning.specs.Market.{Market, Standing, Lawful, mutual?}
use Rattle.meaning.specs.Strikes.{Struck, nothing, struck, left?}
use Rattle.meaning.specs.Solver.{choose, LowestRecord, strike_for, visit}
use Rattle.meaning.proofs.Booleans.{true-or-false, none-some, iff}
use Rattle.meaning.proofs.Numbers.{order, same}
use Rattle.meaning.proofs.Left.{left-pair}
use Rattle.meaning.proofs.Records.{struck-last, struck-keeps, struck-new}
use Rattle.meaning.proofs.Solver.{keeps, bound}
use Rattle.rows.specs.Marks.{is_marked, with_mark}
use Rattle.rows.proofs.Marking.{marked-at-place, marked-elsewhere}
use Rattle.ranks.specs.View.{n_of, m_of, wishes_of, ranking_of, market_of, Once}
use Rattle.reasons.specs.Rows.{marked_at, RowsHold, standing_of}
use Rattle.reasons.specs.Reasons.{choice_in}
use Rattle.reasons.proofs.Choosing.{choice-same}
use Rattle.strikes.specs.Cells.{strikes_in, cells_with}
use Rattle.strikes.proofs.Encoding.{count-strikes, put-length, put-more}
use Rattle.meaning.specs.declared.Reason.{Reason}
use Rattle.meaning.specs.declared.Strike.{Strike}

-- ---- one mark keeps the rows true

struck-other : (S₀ : Struck) (rec : List Strike) (x : Strike) (k j : ℕ) → (x.trainee ≡ k → x.depot ≡ j → ⊥) → struck S₀ (rec ++ (x ∷ [])) k j ≡ struck S₀ rec k j
struck-other S₀ rec x k j n = iff
    (λ t. ⊎_elim (λ s. s) (λ q. absurd (n q.0 q.1)) (struck-last S₀ rec x k j t))
    (λ t. struck-keeps S₀ rec x k j t)

module _ (K : Market) (lists : ℕ → List ℕ) (once : (k : ℕ) → Once (lists k)) (short : (k : ℕ) → length (lists k) ≤ 64) (rec : List Strike) (rows : List ℕ)
    (hold : RowsHold K lists (struck nothing rec) rows) (x : Strike) (p : ℕ) (inside : p < length (lists x.trainee)) (there : x.depot ≡ get_or (lists x.trainee) p 0)
    (long : x.trainee < length rows) where
  old-test : (k q : ℕ) → (k ≡ x.trainee → q ≡ p → ⊥) → marked_at K lists (struck nothing rec) k q ≡ marked_at K lists (struck nothing (rec ++ (x ∷ []))) k q
  unfolding marked_at left? ◌&◌
  old-test k q n = go (order (length (lists k)) q)
    where
      go : (length (lists k) ≤ q) ⊎ (q < length (lists k)) → marked_at K lists (struck nothing rec) k q ≡ marked_at K lists (struck nothing (rec ++ (x ∷ []))) k q
      go (inl l) = rw (le-ltb q (length (lists k)) l)
      go (inr l) = rw (struck-other nothing rec x k (get_or (lists k) q 0) (λ a b.
          n (sym a) (let a₁ = once k q l in
          let b₁ = ap (place (lists k)) (sym b ∙ there) in
          let c₁ = once x.trainee p inside in
          let d₁ = ap (λ (z : ℕ). place (lists z) (get_or (lists x.trainee) p 0)) a in
          omega arith)))

  new-test : marked_at K lists (struck nothing (rec ++ (x ∷ []))) x.trainee p ≡ true
  unfolding marked_at left? ◌&◌
  new-test = rw (← there, struck-new nothing rec x) (go (ltb p (length (lists x.trainee))) (mutual? K x.trainee x.depot))
    where
      go : (a b : Bool) → not (a & (b & false)) ≡ true
      go true true = refl
      go true false = refl
      go false b = refl

  pub rows-struck : RowsHold K lists (struck nothing (rec ++ (x ∷ []))) (set rows x.trainee (with_mark (get_or rows x.trainee 0) p))
  unfolding RowsHold
  rows-struck k rk q l = go (same k x.trainee) (same q p)
    where
      new_row : get_or (set rows x.trainee (with_mark (get_or rows x.trainee 0) p)) x.trainee 0 ≡ with_mark (get_or rows x.trainee 0) p
      new_row = get_or-set_same rows x.trainee (with_mark (get_or rows x.trainee 0) p) 0 long

      go : (k ≡ x.trainee) ⊎ (k ≡ x.trainee → ⊥) → (q ≡ p) ⊎ (q ≡ p → ⊥)
          → is_marked (get_or (set rows x.trainee (with_mark (get_or rows x.trainee 0) p)) k 0) q ≡ marked_at K lists (struck nothing (rec ++ (x ∷ []))) k q
      go (inl a) (inl b) = rw (a, b, new_row) (marked-at-place (get_or rows x.trainee 0) p (omega (arith, short x.trainee)) ∙ sym new-test)
      go (inl a) (inr n) =
          rw (a, new_row) (marked-elsewhere (get_or rows x.trainee 0) p q n ∙ hold x.trainee (subst (In K.n) a rk) q l ∙ old-test x.trainee q (λ _ e. n e))
      go (inr n) b =
          ap (λ (y : ℕ). is_marked y q) (get_or-set_other rows x.trainee k (with_mark (get_or rows x.trainee 0) p) 0 n) ∙ hold k rk q l ∙ old-test k q (λ e _. n e)

-- ---- the reason at a place

module _ (h e holds bars rows : List ℕ) (i p : ℕ) where
  pub reason-marked : is_marked (get_or rows i 0) p ≡ true → none ≡ reason_in h e holds bars rows i p
  unfolding reason_in
  reason-marked t = rw (t, reason_in)

  pub reason-left : is_marked (get_or rows i 0) p ≡ false → choice_in h e holds bars rows i (get_or (wishes_of h e i) p 0) ≡ reason_in h e holds bars rows i p
  unfolding reason_in
  reason-left u = rw (u, reason_in)

  reason-there : (r : Reason) → some r ≡ reason_in h e holds bars rows i p → is_marked (get_or rows i 0) p ≡ false
  reason-there r q = ⊎_elim
      (λ (t : is_marked (get_or rows i 0) p ≡ true). none-some (reason-marked t ∙ sym q))
      (λ u. u)
      (true-or-false (is_marked (get_or rows i 0) p))

-- ---- the visit

module _ (h e holds bars rows cells : List ℕ) (u i p : ℕ) (g : Going h e holds bars rows cells u) (ri : In (n_of h) i) (inside : p < length (wishes_of h e i)) where
  abbrev K : Market
  K = market_of h e

  abbrev O : Standing
  O = standing_of h holds bars

  abbrev j : ℕ
  j = get_or (wishes_of h e i) p 0

  abbrev rec : List Strike
  rec = strikes_in cells u

  pub place-fits : p < 64
  place-fits = omega (arith, g.tables.trainee_short i)

  lawful : Lawful K O
  lawful = lawful-tables h e holds bars g.tables

  -- the row's mark is the meaning's test
  mark-test : is_marked (get_or rows i 0) p ≡ not (left? K (struck nothing rec) i j)
  unfolding RowsHold marked_at market_of ◌&◌
  mark-test = g.rows_hold i ri p place-fits ∙ rw (lt-ltb p (length (wishes_of h e i)) inside)

  pub visit-marked : is_marked (get_or rows i 0) p ≡ true → Came h e holds bars rows cells u (visit_of h e holds bars i j rec)
  unfolding visit
  visit-marked t =
      let f : left? K (struck nothing rec) i j ≡ false = not-true _ (sym mark-test ∙ t) in
      record { going = g; is = sym (rw (f, visit)) }

  module _ (unmarked : is_marked (get_or rows i 0) p ≡ false) where
    may : left? K (struck nothing rec) i j ≡ true
    may = not-false _ (sym mark-test ∙ unmarked)

    j-ranks-i : 0 < place (ranking_of h e j) i
    unfolding market_of
    j-ranks-i = (left-pair K (struck nothing rec) i j may).ranked

    -- what the choice asks
    pub choose-ready : (d : ℕ) → d ≡ j → In (n_of h) i × In (m_of h) d × (0 < place (ranking_of h e d) i) × (n_of h < length rows)
    choose-ready d q = rw q (ri, g.tables.trainee_names i p inside, j-ranks-i, g.rows_long)

    chosen-same : choice_in h e holds bars rows i j ≡ choose K O (struck nothing rec) i j
    chosen-same = choice-same h e holds bars g.tables g.orders (struck nothing rec) rows g.rows_hold i j ri (g.tables.trainee_names i p inside) j-ranks-i

    visit-is : (o : Option Reason) → o ≡ choice_in h e holds bars rows i j → visit_of h e holds bars i j rec ≡ strike_for i j rec o
    unfolding visit
    visit-is o q = rw (may, visit) (ap (strike_for i j rec) (sym (q ∙ chosen-same)))

    pub visit-none : none ≡ choice_in h e holds bars rows i j → Came h e holds bars rows cells u (visit_of h e holds bars i j rec)
    unfolding strike_for
    visit-none q = record { going = g; is = sym (visit-is none q) }

    module _ (r : Reason) (q : some r ≡ choice_in h e holds bars rows i j) where
      abbrev x : Strike
      x = record { trainee = i; depot = j; reason = r }

      struck_is : visit_of h e holds bars i j rec ≡ rec ++ (x ∷ [])
      unfolding strike_for
      struck_is = visit-is (some r) q

      lowest-next : LowestRecord K O nothing (visit_of h e holds bars i j rec)
      lowest-next = keeps K O lawful nothing (nothing-mutual K) (wishes_of h e) (listed-tables h e) i j rec g.lowest

      pub room : 4 * u + 4 ≤ length cells
      room =
          let a = bound K O lawful nothing (nothing-mutual K) (wishes_of h e) (listed-tables h e) _ lowest-next in
          let b = ap length struck_is ∙ length-append rec (x ∷ []) in
          omega (arith, g.cells_long, count-strikes cells u)

      pub visit-strike : (d : ℕ) → d ≡ j → (rows' cells' : List ℕ) → rows' ≡ set rows i (with_mark (get_or rows i 0) p)
          → cells' ≡ cells_with cells u (record { trainee = i; depot = d; reason = r }) → Came h e holds bars rows' cells' (u + 1) (visit_of h e holds bars i j rec)
      visit-strike d ed rows' cells' er ec =
          let same-record : strikes_in cells' (u + 1) ≡ rec ++ (x ∷ []) = rw (ec, add-one u, ed) (put-more cells u x room) in
          record {
            going = record {
              tables = g.tables;
              orders = g.orders;
              rows_long = rw (er, length-set) g.rows_long;
              cells_long = rw (ec, put-length cells u (record { trainee = i; depot = d; reason = r }) room) g.cells_long;
              rows_hold = rw (same-record, er)
                  (rows-struck K (wishes_of h e) g.tables.trainee_once g.tables.trainee_short rec rows g.rows_hold x p inside refl (omega (arith, ri.high, g.rows_long)));
              lowest = subst (LowestRecord K O nothing) (struck_is ∙ sym same-record) lowest-next;
            };
            is = same-record ∙ sym struck_is;
          }

  -- by the reason found there
  pub visit-left : none ≡ reason_in h e holds bars rows i p → Came h e holds bars rows cells u (visit_of h e holds bars i j rec)
  visit-left q = ⊎_elim
      (λ (t : is_marked (get_or rows i 0) p ≡ true). visit-marked t)
      (λ (f : is_marked (get_or rows i 0) p ≡ false). visit-none f (q ∙ sym (reason-left h e holds bars rows i p f)))
      (true-or-false (is_marked (get_or rows i 0) p))

  module _ (r : Reason) (q : some r ≡ reason_in h e holds bars rows i p) where
    free : is_marked (get_or rows i 0) p ≡ false
    free = reason-there h e holds bars rows i p r q

    chosen : some r ≡ choice_in h e holds bars rows i j
    chosen = q ∙ sym (reason-left h e holds bars rows i p free)

    pub room-there : 4 * u + 4 ≤ length cells
    room-there = room free r chosen

    pub visit-struck : (d : ℕ) → d ≡ j → (rows' cells' : List ℕ) → rows' ≡ set rows i (with_mark (get_or rows i 0) p)
        → cells' ≡ cells_with cells u (record { trainee = i; depot = d; reason = r }) → Came h e holds bars rows' cells' (u + 1) (visit_of h e holds bars i j rec)
    visit-struck = visit-strike free r chosen
