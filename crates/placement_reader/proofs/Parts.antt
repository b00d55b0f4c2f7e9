-- Both sides and the whole text, from what was read of the parts.
-- Assumes nothing.
use Prim.Native.Nat.{ℕ, ◌+◌, ◌*◌, ◌≤◌}
use mathlib.Core.Path.{◌≡◌, sym, ap, ap₂, ◌∙◌, subst}
use mathlib.Core.Option.{Option}
use mathlib.Core.List.{List, []}
use native.Mathlib.Omega.{arith}
use lib.ListN.{length, set}
use lib.Seq.{sets}
use lib.Dec.{lit≤}
use Rattle.std.specs.Prelude.{Result, Ok, Err, MatchResult}
use Rattle.meaning.specs.Lists.{weigh}
use Rattle.meaning.specs.Placement.{Depot, Placement, size, depot_size, LegalList, LegalDepot}
use Rattle.fields.specs.Reader.{got, refusal, lines}
use Rattle.fields.specs.Leaves.{wrong_on}
use Rattle.fields.specs.declared.Wrong.{Wrong}
use Rattle.fields.specs.declared.Misread.{Misread}
use Rattle.fields.proofs.Lines.{lines-back}
use Rattle.tables.specs.Cells.{trainee_cells, depot_cells, list_cells, depot_list_cells, series_cells, joined, head_cells, entry_cells, order_cells}
use Rattle.tables.proofs.Round.{head-count, entry-count, order-count}
use Rattle.placement_text.specs.Writer.{write_trainee, write_depot}
use Rattle.placement_text.specs.Reader.{MOST, trainee_line, depot_line, orders, head_fields, read_text, refused}
use Rattle.placement_text.specs.declared.room.Sizes.{Sizes}
use Rattle.placement_text.specs.Code.{Rows, HeadRead, head_of, AllPairs}
use Rattle.placement_text.proofs.Sides.{trainee-back, depot-back}
use Rattle.placement_text.proofs.Pairs.{orders-back}
use Rattle.placement_text.proofs.Whole.{head-refused, trainees-refused, depots-refused, orders-refused, all-taken, heads-joined, entries-joined}
use Rattle.placement_reader.specs.Code.{placement_of, Both, refused_for, All}

pub record Sized {A : Type 0} (weight : A → ℕ) (n : ℕ) (xs : List A) : Type 0 where
  pub count : length xs ≡ n
  pub few : weigh weight xs ≤ 4096

pub trainees-sized : (n m : ℕ) (q : List ℕ) {ts : List (Option (List ℕ))} {r : List ℕ} → lines (trainee_line m) size n 1 0 [] q ≡ got ts r → Sized size n ts
trainees-sized n m q {ts} {r} e =
    let x = lines-back (trainee_line m) size write_trainee (LegalList m) MOST (trainee-back m) n 1 0 [] q ts r e in
    let f = x.fits (lit≤ tt) in
    let y : Sized size n x.xs = record { count = x.count; few = omega arith } in
    subst (Sized size n) (sym x.all) y

pub depots-sized : (n m : ℕ) (q : List ℕ) {ds : List Depot} {r : List ℕ} → lines (depot_line n) depot_size m 1 0 [] q ≡ got ds r → Sized depot_size m ds
depots-sized n m q {ds} {r} e =
    let x = lines-back (depot_line n) depot_size write_depot (LegalDepot n) MOST (depot-back n) m 1 0 [] q ds r e in
    let f = x.fits (lit≤ tt) in
    let y : Sized depot_size m x.xs = record { count = x.count; few = omega arith } in
    subst (Sized depot_size m) (sym x.all) y

pub pairs-few : (n m l : ℕ) (q : List ℕ) {o o' : List ℕ} {count : ℕ} → AllPairs (orders 1024 n m l [] q) o o' count → count ≤ 1024
pairs-few n m l q O =
    let x = orders-back 1024 n m l [] q O.goes in
    let e : length O.them ≡ length x.os = ap length x.all in
    omega (arith, O.size, x.count)

-- ---- both sides

module _ (n m : ℕ) (q : List ℕ) where
  pub sides-refused : {x l f : ℕ} → lines (trainee_line m) size n 1 0 [] q ≡ refusal x l f
      → (s : List ℕ) → length s ≤ 65536 → head_fields s ≡ got (head_of 1 n m) q → read_text s ≡ refused x l f
  sides-refused e s short H = trainees-refused s short H e

  module _ (h : List ℕ) {h₁ t t₁ : List ℕ} {base : ℕ} {r : List ℕ}
      (T : Rows size trainee_cells list_cells (lines (trainee_line m) size n 1 0 [] q) 3 0 (set (set (set h 0 1) 1 n) 2 m) h₁ t t₁ base r) where
    pub base-few : base ≤ 4096
    base-few = let z = trainees-sized n m q T.goes in omega (arith, z.few, T.size)

    pub sides-refused-below : {x l f : ℕ} → lines (depot_line n) depot_size m 1 0 [] r ≡ refusal x l f
        → (s : List ℕ) → length s ≤ 65536 → head_fields s ≡ got (head_of 1 n m) q → read_text s ≡ refused x l f
    sides-refused-below e s short H = depots-refused s short H T.goes e

    module _ {h₂ t₂ : List ℕ} {total : ℕ} {r' : List ℕ}
        (D : Rows depot_size depot_cells depot_list_cells (lines (depot_line n) depot_size m 1 0 [] r) (3 + 2 * n) base h₁ h₂ t₁ t₂ total r') where
      pub total-few : total ≤ 4096
      total-few = let z = depots-sized n m r D.goes in omega (arith, z.few, D.size)

      pub both-sides : Both n m q h h₂ t t₂ (base + total) r'
      both-sides =
          let ts : List (Option (List ℕ)) = T.them in
          let ds : List Depot = D.them in
          let P : Placement = placement_of ts ds [] in
          let x = trainees-sized n m q T.goes in
          let y = depots-sized n m r D.goes in
          record {
            ts = ts;
            ds = ds;
            between = r;
            trainees = T.goes;
            depots = D.goes;
            heads =
                D.heads
                ∙ ap₂ (λ z b. sets z (3 + 2 * n) (series_cells depot_size depot_cells b ds)) T.heads T.size
                ∙ ap (λ k. sets (sets (set (set (set h 0 1) 1 n) 2 k) 3 (series_cells size trainee_cells 0 ts)) (3 + 2 * n) (series_cells depot_size depot_cells (weigh size ts) ds)) (sym y.count)
                ∙ heads-joined P h n x.count;
            total_is = ap₂ ◌+◌ T.size D.size ∙ sym (entry-count P);
            stored =
                D.stored ∙ ap₂ (λ z b. sets z b (joined depot_list_cells ds)) T.stored T.size
                ∙ entries-joined P t;
          }

-- ---- the whole text

-- the first line was read, or the text is refused on it
abbrev pub HeadTaken : List ℕ → List ℕ → Result Sizes Misread → Type 0
HeadTaken s r (Ok z) = head_fields s ≡ got (head_of 1 z.trainees z.depots) r
HeadTaken s r (Err x) = length s ≤ 65536 → read_text s ≡ refused_for x

pub head-taken : (s r : List ℕ) (x : Result Sizes Wrong) (y : Result Sizes Misread)
    → MatchResult x (λ v. y ≡ Ok v) (λ w. y ≡ Err (wrong_on w 1)) → HeadRead s r x → HeadTaken s r y
head-taken s r (Ok z) y e R = rw e R
head-taken s r (Err w) y e R = rw e (λ short. head-refused s short R)

module _ (s : List ℕ) {n m : ℕ} {q : List ℕ} (short : length s ≤ 65536) (H : head_fields s ≡ got (head_of 1 n m) q)
    {h h' t t' : List ℕ} {total : ℕ} {r : List ℕ} (B : Both n m q h h' t t' total r) where
  pub at-orders : {x l f : ℕ} → orders 1024 n m (n + m + 2) [] r ≡ refusal x l f → read_text s ≡ refused x l f
  at-orders e = orders-refused s short H B.trainees B.depots e

  pub whole-text : {o o' : List ℕ} {count : ℕ} → AllPairs (orders 1024 n m (n + m + 2) [] r) o o' count
      → All s h h' t t' o o' (record { heads = 3 + 2 * (n + m) + m; entries = total; orders = 1 + 3 * count })
  unfolding head_cells entry_cells
  whole-text O =
      let x = trainees-sized n m q B.trainees in
      let y = depots-sized n m B.between B.depots in
      let P : Placement = placement_of B.ts B.ds O.them in
      let c : length (head_cells P) ≡ 3 + 2 * length B.ts + 3 * length B.ds = head-count P in
      let d : length (order_cells P) ≡ 1 + 3 * length O.them = order-count O.them in
      record {
        it = P;
        goes = all-taken s short H B.trainees B.depots O.goes;
        heads = B.heads;
        entries = B.stored;
        orders = O.stored;
        heads_used = omega (arith, c, x.count, y.count);
        entries_used = B.total_is;
        orders_used = omega (arith, d, O.size);
      }
