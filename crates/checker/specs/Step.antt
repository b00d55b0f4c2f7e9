-- One step of the checker, as it is read off tables and rows: the pair is mutual and not struck so far, and the strike's own reason fits with its witness.
-- Assumes nothing.
use Rattle.std.specs.Prelude.{ℕ, ◌-◌, Bool, not, List, get_or, set, ltb, leb, eqb}
use Rattle.meaning.specs.Numbers.{◌&◌}
use Rattle.meaning.specs.Lists.{place}
use Rattle.meaning.specs.declared.Reason.{Reason}
use Rattle.meaning.specs.declared.Reason.TheVariants.{Barred, HeldElsewhere, PostsGone, Passed}
use Rattle.meaning.specs.declared.Strike.{Strike}
use Rattle.rows.specs.Marks.{is_marked, with_mark}
use Rattle.tables.specs.Decode.{within}
use Rattle.ranks.specs.View.{m_of, wishes_of, posts_of}
use Rattle.reasons.specs.Scans.{count_in}
use Rattle.reasons.specs.Reasons.{settled, above_of}
use Rattle.reasons.specs.Left.{open_at}

-- j is one of 1 to m, and an order row marks it
unfoldable pub ordered : ℕ → ℕ → ℕ → Bool
ordered m row j = within m j & is_marked row (j - 1)

-- the reason fits the pair (i, j)
unfoldable pub fits_in : List ℕ → List ℕ → List ℕ → List ℕ → List ℕ → ℕ → ℕ → Reason → Bool
fits_in h e holds bars rows i j Barred = is_marked (get_or bars i 0) (j - 1)
fits_in h e holds bars rows i j (HeldElsewhere k) = ordered (m_of h) (get_or holds i 0) k & not (eqb k j)
fits_in h e holds bars rows i j PostsGone = leb (posts_of h j) (count_in (settled h e rows 1 j) (above_of h e i j))
fits_in h e holds bars rows i j (Passed k) = ltb 0 (place (above_of h e i j) k) & settled h e rows 0 j k

unfoldable pub may_strike : List ℕ → List ℕ → List ℕ → List ℕ → List ℕ → Strike → Bool
may_strike h e holds bars rows s = open_at h e rows s.trainee s.depot & fits_in h e holds bars rows s.trainee s.depot s.reason

-- the rows with the pair's place marked
unfoldable pub rows_with : List ℕ → List ℕ → List ℕ → Strike → List ℕ
rows_with h e rows s = set rows s.trainee (with_mark (get_or rows s.trainee 0) (place (wishes_of h e s.trainee) s.depot - 1))
