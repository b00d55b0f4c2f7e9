-- Read off rows that hold the struck set, a step is allowed exactly if the meaning allows it.
-- Assumes nothing.

use Prim.Native.Nat.{ℕ, ◌<◌}
use mathlib.Core.Path.{◌≡◌, sym, ap, ◌∙◌}
use mathlib.Core.Bool.{true, not}
use mathlib.Core.List.{List}
use lib.ListN.{get_or}
use lib.Dec.{eqb}
use borrow.Author.Tests.{not-true}
use Rattle.checker.specs.Step.{ordered, fits_in, may_strike}
use Rattle.reasons.specs.Left.{open_at}
pub use Rattle.reasons.proofs.Lefts.{its-place, on-its-list, open-same}
use Rattle.meaning.specs.Numbers.{In, ◌&◌}
use Rattle.meaning.specs.Lists.{place}
use Rattle.meaning.specs.Market.{mutual?}
use Rattle.meaning.specs.Strikes.{Struck, fits, allowed, allowed_strike, left?}
use Rattle.meaning.proofs.Booleans.{iff, and_left, and_right, and_intro}
use Rattle.meaning.proofs.Pairs.{mutual-is, is-mutual}
use Rattle.meaning.proofs.Left.{left-pair, left-unstruck, is-left}
use Rattle.tables.proofs.Tests.{in_within}
use Rattle.ranks.specs.View.{n_of, m_of, wishes_of, ranking_of, market_of, FullTables}
use Rattle.ranks.proofs.Tables.{ranged-tables}
use Rattle.reasons.specs.Rows.{RowsHold, row_pairs, standing_of, OrderRows}
use Rattle.reasons.proofs.Choosing.{gone_same, passed-test, barred-same}
use Rattle.meaning.specs.declared.Reason.{Reason}
use Rattle.meaning.specs.declared.Reason.TheVariants.{Barred, HeldElsewhere, PostsGone, Passed}
use Rattle.meaning.specs.declared.Strike.{Strike}

module _ (h e : List ℕ) (ft : FullTables h e) (S : Struck) (rows : List ℕ) (hold : RowsHold (market_of h e) (wishes_of h e) S rows) where
  module _ (holds bars : List ℕ) (orders : OrderRows h holds bars) (i j : ℕ) (ri : In (n_of h) i) where
    depot-there : left? (market_of h e) S i j ≡ true → In (m_of h) j
    unfolding market_of
    depot-there t = (ranged-tables h e ft).depot_in_range i j (left-pair (market_of h e) S i j t).ranks

    ranked-there : left? (market_of h e) S i j ≡ true → 0 < place (ranking_of h e j) i
    unfolding market_of
    ranked-there t = (left-pair (market_of h e) S i j t).ranked

    elsewhere : (k : ℕ) → (ordered (m_of h) (get_or holds i 0) k & not (eqb k j)) ≡ fits (market_of h e) (standing_of h holds bars) S i j (HeldElsewhere k)
    unfolding fits standing_of row_pairs ordered ◌&◌
    elsewhere k = rw (in_within _ _ ri)

    -- of a pair that is left, a reason fits the rows exactly if it fits the struck set
    fits-same : left? (market_of h e) S i j ≡ true → (r : Reason) → fits_in h e holds bars rows i j r ≡ fits (market_of h e) (standing_of h holds bars) S i j r
    unfolding fits_in
    fits-same t Barred = barred-same h e holds bars ft orders S rows hold i j ri (depot-there t) (ranked-there t)
    fits-same t (HeldElsewhere k) = elsewhere k
    fits-same t PostsGone = gone_same h e ft (standing_of h holds bars) S rows hold i j (ranked-there t)
    fits-same t (Passed k) = sym (passed-test h e ft (standing_of h holds bars) S rows hold i j (ranked-there t) k)

    may-strike-same : (r : Reason) → (open_at h e rows i j & fits_in h e holds bars rows i j r) ≡ allowed (market_of h e) (standing_of h holds bars) S i j r
    unfolding allowed
    may-strike-same r = iff there back
      where
        there : (open_at h e rows i j & fits_in h e holds bars rows i j r) ≡ true → (mutual? (market_of h e) i j & (not (S i j) & fits (market_of h e) (standing_of h holds bars) S i j r)) ≡ true
        there t =
            let l = sym (open-same h e ft S rows hold i j ri) ∙ and_left _ _ t in
            and_intro (is-mutual (market_of h e) i j (left-pair (market_of h e) S i j l))
            (and_intro (ap not (left-unstruck (market_of h e) S i j l)) (sym (fits-same l r) ∙ and_right (open_at h e rows i j) _ t))

        back : (mutual? (market_of h e) i j & (not (S i j) & fits (market_of h e) (standing_of h holds bars) S i j r)) ≡ true → (open_at h e rows i j & fits_in h e holds bars rows i j r) ≡ true
        back t =
            let u = and_right (mutual? (market_of h e) i j) _ t in
            let l = is-left (market_of h e) S i j (mutual-is (market_of h e) i j (and_left _ _ t)) (not-true _ (and_left _ _ u)) in
            and_intro (open-same h e ft S rows hold i j ri ∙ l) (fits-same l r ∙ and_right (not (S i j)) _ u)

  -- the step's answer is the meaning's
  pub step_same : (holds bars : List ℕ) → OrderRows h holds bars → (s : Strike) → In (n_of h) s.trainee
      → may_strike h e holds bars rows s ≡ allowed_strike (market_of h e) (standing_of h holds bars) S s
  unfolding may_strike
  step_same holds bars orders s ri = may-strike-same holds bars orders s.trainee s.depot ri s.reason
