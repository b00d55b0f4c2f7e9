-- The guards of the stability test, in the order in which they are tried: each way through the code against the definition.
-- Assumes nothing.
use Prim.Native.Nat.{ℕ, ◌≤◌}
use mathlib.Core.Path.{◌≡◌, refl, sym, ap, ◌∙◌}
use mathlib.Core.Bool.{Bool, true, false, ◌&&◌, true≢false, false≢true}
use mathlib.Core.Option.{Option, none, some}
use mathlib.Core.List.{List, [], ◌∷◌}
use native.Mathlib.Omega.{arith}
use lib.ListN.{length, get_or, take, length-take}
use lib.Dec.{leb}
use borrow.Author.Tests.{leb-true, eqb-true, eq-eqb, ne_eqb}
use Rattle.std.specs.List.{list_all}
use Rattle.stability.specs.Test.{long_enough, read_depots, read_beside, read_with, test_if_full, test_if_read, test_of}
use Rattle.stability.specs.Search.{TestTables}
use Rattle.meaning.specs.Numbers.{◌&◌}
use Rattle.meaning.specs.Placement.{Placement}
use Rattle.meaning.specs.Full.{Full, Received, full}
use Rattle.meaning.specs.Endings.{table_of}
use Rattle.meaning.specs.Answers.{SHORT_PART, NOT_RECEIVED, NOT_READ, refusal}
use Rattle.meaning.specs.Stability.{test_by, test}
use Rattle.meaning.proofs.Booleans.{and_left, and_right}
use Rattle.tables.specs.Cells.{HeadRoom}
use Rattle.tables.specs.Decode.{placement_of}
use Rattle.tables.specs.Answers.{sized, LineOf, Same}
use Rattle.tables.specs.Walk.{is_some}
use Rattle.tables.proofs.Round.{sides-count, parts}
use Rattle.tables.proofs.Seen.{sides-seen}
use Rattle.std.specs.Prelude.{Some, None}
use Rattle.tables.proofs.Lines.{IsWhole, lacking-at, whole-at-zero}
use Rattle.tables.proofs.Same.{same-of}
use Rattle.tables.proofs.Receipts.{Sizes, sizes}
use Rattle.tables.proofs.Views.{FullSeen, tables-seen}
use Rattle.ranks.specs.View.{wishes_of, market_of}
use Rattle.ranks.proofs.Held.{market-held, lists-held, full-tables}
use Rattle.std.specs.Prelude.{Ok, Err}

-- ---- number 1

module _ (h e o t : List ℕ) where
  pub part-short : sized h e o ≡ false → false ≡ long_enough h e o t
  unfolding long_enough ◌&◌
  part-short u = rw u

  pub table-long : sized h e o ≡ true → leb 256 (length t) ≡ long_enough h e o t
  unfolding long_enough ◌&◌
  table-long k = rw k

-- ---- number 8: the table's cells

both-read : (b c d : Bool) → c ≡ d → (b && c) ≡ (b & d)
unfolding ◌&◌
both-read true c d e = e
both-read false c d e = refl

pub all-read : (cells : List ℕ) → list_all (λ j. leb j 64) cells ≡ read_depots cells
unfolding read_depots
all-read [] = refl
all-read (j ∷ js) = both-read (leb j 64) _ _ (all-read js)

-- ---- number 8: all of it

-- as many trainees as the heads say
pub held-trainees : (h e o : List ℕ) (p : Placement) → placement_of h e o ≡ some p → get_or h 1 0 ≡ length p.trainees
held-trainees h e o p k =
    let q = parts h e o p k in
    (sides-count h e q.sides q.sides-of).trainees ∙ ap (λ (z : Placement). length z.trainees) q.is

module _ (h e o : List ℕ) (n : ℕ) (t : List ℕ) where
  pub cells-unread : is_some (placement_of h e o) ≡ false → false ≡ read_with (placement_of h e o) n t
  unfolding read_with
  cells-unread u = go (placement_of h e o) u
    where
      go : (q : Option Placement) → is_some q ≡ false → false ≡ read_with q n t
      go none u = refl
      go (some p) u = absurd (true≢false u)

  module _ (k : is_some (placement_of h e o) ≡ true) where
    pub few_trainees : get_or h 1 0 ≤ 256
    few_trainees = go (placement_of h e o) refl k
      where
        go : (q : Option Placement) → placement_of h e o ≡ q → is_some q ≡ true → get_or h 1 0 ≤ 256
        go none x y = absurd (false≢true y)
        go (some p) x y = let q = parts h e o p x in (sides-seen h e q.sides q.sides-of).room.few_trainees

    pub other-number : (get_or h 1 0 ≡ n → ⊥) → false ≡ read_with (placement_of h e o) n t
    unfolding read_with read_beside ◌&◌
    other-number ne = go (placement_of h e o) refl k
      where
        go : (q : Option Placement) → placement_of h e o ≡ q → is_some q ≡ true → false ≡ read_with q n t
        go none x y = absurd (false≢true y)
        go (some p) x y = rw (ne_eqb n (length p.trainees) (λ z. ne (held-trainees h e o p x ∙ sym z)))

    pub same_number : get_or h 1 0 ≡ n → read_depots (take n t) ≡ read_with (placement_of h e o) n t
    unfolding read_with read_beside ◌&◌
    same_number is = go (placement_of h e o) refl k
      where
        go : (q : Option Placement) → placement_of h e o ≡ q → is_some q ≡ true → read_depots (take n t) ≡ read_with q n t
        go none x y = absurd (false≢true y)
        go (some p) x y = rw (eq-eqb n (length p.trainees) (sym is ∙ held-trainees h e o p x))

-- ---- the answers

pub record LongParts (h e o t : List ℕ) : Type 0 where
  pub tables : Sizes h e o
  pub table : 256 ≤ length t

pub long-parts : (h e o t : List ℕ) → long_enough h e o t ≡ true → LongParts h e o t
unfolding long_enough
long-parts h e o t k = record { tables = sizes h e o (and_left _ _ k); table = leb-true _ _ (and_right (sized h e o) _ k) }

-- past number 8 there is a placement, of n trainees
pub record ReadTables (h e o : List ℕ) (n : ℕ) (t : List ℕ) : Type 0 where
  pub placement : Placement
  pub held : placement_of h e o ≡ some placement
  pub trainees : n ≡ length placement.trainees
  pub by : test_of h e o n t ≡ test_if_full (full placement) (take n t)

module _ (h e o : List ℕ) (n : ℕ) (t : List ℕ) where
  pub test_short : long_enough h e o t ≡ false → Err (refusal SHORT_PART 0) ≡ test_of h e o n t
  unfolding test_of
  test_short u = rw (u, test_of)

  module _ (long : long_enough h e o t ≡ true) where
    pub test-unread : read_with (placement_of h e o) n t ≡ false → Err (refusal NOT_READ 0) ≡ test_of h e o n t
    unfolding test_of test_if_read read_with
    test-unread u = rw (long, test_of) (go (placement_of h e o) u)
      where
        go : (q : Option Placement) → read_with q n t ≡ false → Err (refusal NOT_READ 0) ≡ test_if_read q n t
        go none u = refl
        go (some p) u = rw (u, test_if_read)

    pub read-tables : read_with (placement_of h e o) n t ≡ true → ReadTables h e o n t
    unfolding test_of test_if_read read_with read_beside
    read-tables k = go (placement_of h e o) refl k
      where
        go : (q : Option Placement) → placement_of h e o ≡ q → read_with q n t ≡ true → ReadTables h e o n t
        go none x y = absurd (false≢true y)
        go (some p) x y = record {
          placement = p;
          held = x;
          trainees = eqb-true n (length p.trainees) (and_left _ _ y);
          by = rw (long, test_of) (rw x (rw (y, test_if_read)));
        }

-- the same from what the types of lent tables say
pub held-tables : {h' e' o' h e o : List ℕ} {n : ℕ} {t : List ℕ} → Same h' e' o' h e o × (long_enough h e o t ≡ true) → read_with (placement_of h' e' o') n t ≡ true → ReadTables h e o n t
held-tables {n = n} {t = t} l k = read-tables _ _ _ n t l.1 (sym (ap (λ q. read_with q n t) (same-of l.0 placement_of)) ∙ k)

-- ---- number 7

pub head-room : (h e o : List ℕ) (p : Placement) → placement_of h e o ≡ some p → HeadRoom h
head-room h e o p k = let q = parts h e o p k in (sides-seen h e q.sides q.sides-of).room

pub few-numbered : (h e o : List ℕ) (n : ℕ) (t : List ℕ) → ReadTables h e o n t → n ≤ 256
few-numbered h e o n t g = omega (arith, g.trainees, held-trainees h e o g.placement g.held, (head-room h e o g.placement g.held).few_trainees)

module _ (h e o : List ℕ) (n : ℕ) (t : List ℕ) (g : ReadTables h e o n t) where
  pub test-lacking : (line : ℕ) → LineOf (full g.placement) (Some line) → Err (refusal NOT_RECEIVED line) ≡ test_of h e o n t
  unfolding test_if_full
  test-lacking line gives = sym (g.by ∙ rw (lacking-at (full g.placement) line gives))

  -- ---- the worker's tables

  module _ (gives : LineOf (full g.placement) None) where
    its_full : IsWhole (full g.placement)
    its_full = whole-at-zero g.placement gives

    seen : FullSeen h e its_full.value
    seen = (tables-seen h e o g.placement its_full.value g.held its_full.here).sides

    pub test-tables : 256 ≤ length t → (k : ℕ) → k ≡ n → TestTables h e (take k t)
    test-tables l k is = record {
      full = full-tables h e its_full.value seen;
      cells = omega (arith, length-take k t, held-trainees h e o g.placement g.held, g.trainees, few-numbered h e o n t g);
    }

    pub test-whole : (k : ℕ) → k ≡ n → Ok (test_by (market_of h e) (wishes_of h e) (table_of (take k t))) ≡ test_of h e o n t
    unfolding test_if_full test
    test-whole k is =
        let m = sym (market-held h e its_full.value seen) in
        let l = sym (lists-held h e its_full.value seen) in
        (λ x. Ok (test_by (m x) (l x) (table_of (take (is x) t))))
        ∙ sym (g.by ∙ ap (λ (r : Received Full). test_if_full r (take n t)) its_full.here)
