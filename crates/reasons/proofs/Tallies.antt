-- What the ones of a row count: a trainee's pairs left, and less the ones of the start row the pairs struck.
-- Assumes nothing.
use Prim.Native.Nat.{ℕ, suc, ◌+◌, ◌≤◌, ◌<◌}
use mathlib.Core.Path.{◌≡◌, refl, ◌∙◌}
use mathlib.Core.Bool.{Bool, true, false, not, true≢false, false≢true}
use mathlib.Core.List.{List, [], ◌∷◌}
use native.Mathlib.Omega.{arith}
use lib.ListN.{length, get_or}
use borrow.Author.Tests.{lt-ltb, le-ltb}
use Rattle.reasons.specs.Scans.{count_in}
use Rattle.reasons.specs.Rows.{marked_at, RowsHold, start_row}
use Rattle.reasons.proofs.Starting.{start-marks}
use Rattle.meaning.specs.Numbers.{In, bit, ◌&◌}
use Rattle.meaning.specs.Market.{Market, mutual?}
use Rattle.meaning.specs.Strikes.{Struck, nothing, struck, left?}
use Rattle.ranks.specs.View.{n_of, wishes_of, market_of}
use Rattle.rows.specs.Marks.{marks, is_marked}
use Rattle.rows.specs.Left.{count_marks, number_marked, number_left}
use Rattle.rows.proofs.Marking.{marks-length}
use Rattle.rows.proofs.Numbers.{marked-and-left}

-- marks that stand where the test fails or the list is past its end
record Marks (P : ℕ → Bool) (l : List ℕ) (bs : List Bool) : Type 0 where
  inside : (p : ℕ) → p < length l → get_or bs p false ≡ not (P (get_or l p 0))
  past : (p : ℕ) → length l ≤ p → p < length bs → get_or bs p false ≡ true

marks-later : {P : ℕ → Bool} {x : ℕ} {l : List ℕ} {b : Bool} {bs : List Bool} → Marks P (x ∷ l) (b ∷ bs) → Marks P l bs
marks-later f = record { inside = λ p h. f.inside (suc p) (omega arith); past = λ p h k. f.past (suc p) (omega arith) (omega arith) }

marks-and-rest : (P : ℕ → Bool) (l : List ℕ) (bs : List Bool) → length l ≤ length bs → Marks P l bs → count_marks bs + count_in P l ≡ length bs
unfolding count_marks count_in
marks-and-rest P [] [] k f = refl
marks-and-rest P (x ∷ l) [] k f = absurd (omega arith)
marks-and-rest P [] (true ∷ bs) k f =
    let rest = marks-and-rest P [] bs (omega arith) (record { inside = λ p h. absurd (omega arith); past = λ p h a. f.past (suc p) (omega arith) (omega arith) }) in
    omega (arith, rest)
marks-and-rest P [] (false ∷ bs) k f = absurd (false≢true (f.past 0 (omega arith) (omega arith)))
marks-and-rest P (x ∷ l) (b ∷ bs) k f = go b (P x) (f.inside 0 (omega arith)) (marks-and-rest P l bs (omega arith) (marks-later f))
  where
    go : (b c : Bool) → b ≡ not c → count_marks bs + count_in P l ≡ length bs → count_marks (b ∷ bs) + (bit c + count_in P l) ≡ suc (length bs)
    go true true e rest = absurd (true≢false e)
    go true false e rest = omega (arith, rest)
    go false true e rest = omega (arith, rest)
    go false false e rest = absurd (false≢true e)

-- what is mutual is struck or left
struck-and-left : (K : Market) (S : Struck) (i : ℕ) (l : List ℕ) → count_in (left? K nothing i) l ≡ count_in (λ j. mutual? K i j & S i j) l + count_in (left? K S i) l
unfolding count_in left? ◌&◌
struck-and-left K S i [] = refl
struck-and-left K S i (j ∷ l) =
    let r = struck-and-left K S i l in
    let b = go (mutual? K i j) (S i j) in
    omega (arith, r, b)
  where
    go : (a s : Bool) → bit (a & true) ≡ bit (a & s) + bit (a & not s)
    go true true = refl
    go true false = refl
    go false s = refl

-- the number left of a row that marks what S makes of i's list is the number of pairs left
pub row-left : (K : Market) (lists : ℕ → List ℕ) (S : Struck) (i row : ℕ) → length (lists i) ≤ 64 → ((p : ℕ) → p < 64 → is_marked row p ≡ marked_at K lists S i p)
    → number_left row ≡ count_in (left? K S i) (lists i)
unfolding marked_at number_marked ◌&◌
row-left K lists S i row short marked =
    let n = marks-length row in
    let c = marks-and-rest (left? K S i) (lists i) (marks row) (omega (arith, n, short)) (record {
      inside = λ p h. marked p (omega (arith, h, short)) ∙ rw (lt-ltb p (length (lists i)) h);
      past = λ p h k. marked p (omega (arith, k, n)) ∙ rw (le-ltb p (length (lists i)) h);
    }) in
    omega (arith, c, n, marked-and-left row)

-- the ones of a trainee's row, less those of the start row, are the pairs struck
pub row-struck : (h e : List ℕ) (S : Struck) (rows : List ℕ) → RowsHold (market_of h e) (wishes_of h e) S rows → (i : ℕ) → In (n_of h) i → length (wishes_of h e i) ≤ 64
    → number_marked (get_or rows i 0) ≡ number_marked (start_row h e i) + count_in (λ j. mutual? (market_of h e) i j & S i j) (wishes_of h e i)
unfolding RowsHold market_of struck
row-struck h e S rows holds i r short =
    omega (
      arith,
      row-left (market_of h e) (wishes_of h e) S i (get_or rows i 0) short (holds i r),
      row-left (market_of h e) (wishes_of h e) nothing i (start_row h e i) short (start-marks h e i),
      struck-and-left (market_of h e) S i (wishes_of h e i),
      marked-and-left (get_or rows i 0),
      marked-and-left (start_row h e i),
    )
