-- The rows before the first strike: exactly what is past a list's end or not mutual is marked.
-- Assumes nothing.
use Prim.Native.Nat.{ℕ, ◌+◌, ◌≤◌, ◌<◌}
use mathlib.Core.Path.{◌≡◌, refl, sym, ap, ◌∙◌}
use mathlib.Core.Logic.{⊎_elim}
use mathlib.Core.Bool.{Bool, true, false, not}
use mathlib.Core.List.{List, []}
use native.Mathlib.Omega.{arith}
use lib.ListN.{length, get_or}
use lib.Dec.{ltb}
use borrow.Author.Tests.{lt-ltb, le-ltb, le-leb, lt-leb}
use Rattle.reasons.specs.Rows.{marked_at, RowsHold, shut_at, start_row}
use Rattle.meaning.specs.Numbers.{In, ◌&◌}
use Rattle.meaning.specs.Lists.{place}
use Rattle.meaning.specs.Market.{Market, mutual?}
use Rattle.meaning.specs.Strikes.{Struck, nothing, struck, left?}
use Rattle.meaning.proofs.Numbers.{order}
use Rattle.rows.specs.Marks.{is_marked, mark_if, past_end}
use Rattle.rows.proofs.Marking.{row-where-at, past-end-fits, past-end-at}
use Rattle.rows.proofs.Filling.{Filled, filled_none, filled_more, filled-all}
use Rattle.ranks.specs.View.{n_of, wishes_of, ranking_of, market_of}
use Rattle.ranks.proofs.Places.{place-of-at}

module _ (h e : List ℕ) (i : ℕ) where
  -- inside the list the test is whether the depot ranks the trainee
  pub shut-inside : (p : ℕ) → p < length (wishes_of h e i) → shut_at h e i p ≡ not (ltb 0 (place (ranking_of h e (get_or (wishes_of h e i) p 0)) i))
  unfolding shut_at ◌&◌
  shut-inside p l = rw (lt-ltb p (length (wishes_of h e i)) l)

  shut-past : (p : ℕ) → length (wishes_of h e i) ≤ p → shut_at h e i p ≡ true
  unfolding shut_at ◌&◌
  shut-past p l = rw (le-ltb p (length (wishes_of h e i)) l)

  -- one turn, and the end
  module _ (len : ℕ) (el : len ≡ length (wishes_of h e i)) (short : len ≤ 64) where
    pub row-begins : Filled (shut_at h e i) (past_end len) 0 (past_end len)
    row-begins = filled_none (shut_at h e i) (past_end len) (past-end-fits len)

    pub row-goes-on : (p row r : ℕ) (b : Bool) → p < len → b ≡ shut_at h e i p → r ≡ mark_if row p b → Filled (shut_at h e i) (past_end len) p row
        → Filled (shut_at h e i) (past_end len) (p + 1) r
    row-goes-on p row r b l eb er inv =
        rw (er, eb) (filled_more (shut_at h e i) (past_end len) p row (omega arith) (past-end-at len p (omega arith) ∙ lt-leb len p l) inv)

    pub row_ends : (p row : ℕ) → len ≤ p → p ≤ len → Filled (shut_at h e i) (past_end len) p row → row ≡ start_row h e i
    unfolding start_row
    row_ends p row l u inv =
        filled-all (shut_at h e i) (past_end len) p row
        (λ q a b. past-end-at len q b ∙ le-leb len q (omega arith) ∙ sym (shut-past q (omega arith))) inv

-- ---- the rows of all trainees

-- the rows below i are the start rows
abbrev pub StartedBelow : List ℕ → List ℕ → ℕ → List ℕ → Type 0
StartedBelow h e i rows = (k : ℕ) → 1 ≤ k → k < i → get_or rows k 0 ≡ start_row h e k

marked-past : (K : Market) (lists : ℕ → List ℕ) (S : Struck) (k p : ℕ) → length (lists k) ≤ p → marked_at K lists S k p ≡ true
unfolding marked_at ◌&◌
marked-past K lists S k p l = rw (le-ltb p (length (lists k)) l)

marked_start : (h e : List ℕ) (k p : ℕ) → p < length (wishes_of h e k)
    → marked_at (market_of h e) (wishes_of h e) (struck nothing []) k p ≡ not (ltb 0 (place (ranking_of h e (get_or (wishes_of h e k) p 0)) k))
unfolding marked_at market_of left? mutual? struck ◌&◌
marked_start h e k p l =
    rw (lt-ltb p (length (wishes_of h e k)) l, lt-ltb 0 (place (wishes_of h e k) (get_or (wishes_of h e k) p 0)) (place-of-at (wishes_of h e k) p l))
    (end_of (ltb 0 (place (ranking_of h e (get_or (wishes_of h e k) p 0)) k)))
  where
    end_of : (b : Bool) → not (b & true) ≡ not b
    end_of true = refl
    end_of false = refl

-- the start row marks what is past the list's end or not mutual, and nothing else
pub start-marks : (h e : List ℕ) (k p : ℕ) → p < 64 → is_marked (start_row h e k) p ≡ marked_at (market_of h e) (wishes_of h e) (struck nothing []) k p
unfolding start_row market_of
start-marks h e k p l = row-where-at (shut_at h e k) p l
    ∙ ⊎_elim
    (λ (past : length (wishes_of h e k) ≤ p). shut-past h e k p past ∙ sym (marked-past (market_of h e) (wishes_of h e) (struck nothing []) k p past))
    (λ (inside : p < length (wishes_of h e k)). shut-inside h e k p inside ∙ sym (marked_start h e k p inside))
    (order (length (wishes_of h e k)) p)

-- the start rows hold the empty set
pub start-holds : (h e : List ℕ) (rows : List ℕ) → ((k : ℕ) → In (n_of h) k → get_or rows k 0 ≡ start_row h e k)
    → RowsHold (market_of h e) (wishes_of h e) (struck nothing []) rows
unfolding RowsHold market_of
start-holds h e rows f k r p l = ap (λ (x : ℕ). is_marked x p) (f k r) ∙ start-marks h e k p l
