-- One law for each way through the functions that read the first line and the lines below the depots, and what a turn of the loop over the pairs adds.
-- Assumes nothing.
use Prim.Native.Nat.{ℕ, zero, suc, ◌+◌, ◌-◌, ◌*◌, ◌≤◌, ◌<◌}
use mathlib.Core.Path.{◌≡◌, refl, sym, ap, ap₂, ◌∙◌}
use mathlib.Core.Bool.{true, false}
use mathlib.Core.List.{List, [], ◌∷◌, ◌++◌}
use native.Mathlib.Omega.{arith}
use native.Mathlib.Nat.{add-zero}
use lib.ListN.{length, set, length-append}
use lib.Seq.{sets, set_comm}
use Rattle.std.specs.Prelude.{Option, Some, Result, Ok, Err, MatchResult}
use Rattle.meaning.specs.Placement.{Kind, Order, held, barred}
use Rattle.fields.specs.Bytes.{word_of, same, word_end}
use Rattle.fields.specs.declared.Wrong.{Wrong}
use Rattle.fields.specs.Leaves.{wrong_on, FirstRead}
use Rattle.fields.specs.Reader.{got, refusal}
use Rattle.fields.proofs.Puts.{sets-append}
use Rattle.tables.proofs.Series.{series-cells}
use Rattle.tables.proofs.One.{order-wide}
use Rattle.placement_text.specs.Words.{word_F, word_X}
use Rattle.placement_text.specs.Reader as reader
use Rattle.placement_text.specs.Reader.{opening_of, order_fields, end_fields, finish, orders, edition, sizes, head_fields}
use Rattle.tables.specs.Cells.{kind_cell, one_order, weightless, series_cells, cells_of_orders}
use Rattle.placement_text.specs.Code.{Opened, PairRead, OrderRead, kind_of, pair_of, order_of, OneMore, AllPairs}
use Rattle.placement_text.specs.declared.Pair.{Pair}
use Rattle.tables.specs.Kinds.{cell_of}
use Rattle.tables.specs.declared.Kind as declared
use Rattle.tables.specs.declared.Kind.TheVariants.{Held, Barred}
use Rattle.fields.specs.declared.Misread.{Misread}
use Rattle.placement_text.proofs.Turns.{series-end, three-cells}

-- ---- the word

-- w stands at the front, and r follows
module _ {q r w : List ℕ} (F : FirstRead q r w) where
  opened : (o : reader.Opening) → opening_of w ≡ o → Opened q o r
  opened o e = record { opens = ap opening_of (sym F.word) ∙ e; rest = sym F.rest }

  pub opens-held : same w word_F ≡ true → Opened q (reader.order held) r
  unfolding opening_of
  opens-held f = opened (reader.order held) (rw (f, opening_of))

  module _ (f : same w word_F ≡ false) where
    pub opens-barred : same w word_X ≡ true → Opened q (reader.order barred) r
    unfolding opening_of
    opens-barred x = opened (reader.order barred) (rw (f, x, opening_of))

    module _ (x : same w word_X ≡ false) where
      pub opens-end : same w word_end ≡ true → Opened q reader.ending r
      unfolding opening_of
      opens-end e = opened reader.ending (rw (f, x, e, opening_of))

      pub opens-other : same w word_end ≡ false → opening_of (word_of q) ≡ reader.other
      unfolding opening_of
      opens-other e = ap opening_of (sym F.word) ∙ rw (f, x, e, opening_of)

-- ---- one line

module _ (n m l : ℕ) (q : List ℕ) where
  pub orders-other : (k : ℕ) (os : List Order) → opening_of (word_of q) ≡ reader.other → orders k n m l os q ≡ refusal 3 l 1
  unfolding orders
  orders-other zero os e = rw (e, orders)
  orders-other (suc k) os e = rw (e, orders)

  pub orders-end : {r : List ℕ} (k : ℕ) (os : List Order) → Opened q reader.ending r → orders k n m l os q ≡ finish l os r
  unfolding orders
  orders-end zero os O = rw (O.opens, orders) (ap (finish l os) O.rest)
  orders-end (suc k) os O = rw (O.opens, orders) (ap (finish l os) O.rest)

  module _ (c : ℕ) (few : c < 1024) {b : Kind} {r : List ℕ} (O : Opened q (reader.order b) r) where
    pub orders-refused : {x f : ℕ} (os : List Order) → order_fields n m b r ≡ refusal x 0 f → orders (1024 - c) n m l os q ≡ refusal x l f
    unfolding orders
    orders-refused os e = let k : 1024 - c ≡ suc (1024 - (c + 1)) = omega arith in rw k (rw (O.opens, orders) (rw (O.rest, e)))

    pub orders-goes : {o : Order} {r' : List ℕ} (os : List Order) → order_fields n m b r ≡ got o r'
        → orders (1024 - c) n m l os q ≡ orders (1024 - (c + 1)) n m (l + 1) (os ++ o ∷ []) r'
    unfolding orders
    orders-goes os e = let k : 1024 - c ≡ suc (1024 - (c + 1)) = omega arith in rw k (rw (O.opens, orders) (rw (O.rest, e)))

-- a pair's line
pub pair-line : (n m l c : ℕ) (q p r : List ℕ) (b : declared.Kind) (x : Result Pair Wrong) (y : Result (Option Pair) Misread) → c < 1024 → Opened q (reader.order (kind_of b)) p
    → MatchResult x (λ v. y ≡ Ok (Some v)) (λ w. y ≡ Err (wrong_on w l)) → PairRead n m b p r x → OrderRead n m l c q r y
pair-line n m l c q p r b (Ok v) y few O e R = rw e (record { few = few; goes = λ os. orders-goes n m l q c few O os R })
pair-line n m l c q p r b (Err w) y few O e R = rw e (λ os. orders-refused n m l q c few O os R)

-- ---- the loop over the pairs

set_before : (xs t : List ℕ) (i j v : ℕ) → j < i → set (sets t i xs) j v ≡ sets (set t j v) i xs
set_before [] t i j v h = refl
set_before (x ∷ xs) t i j v h =
    set_before xs (set t i x) (suc i) j v (omega arith) ∙ ap (λ z. sets z (suc i) xs) (set_comm t i j x v (λ e. omega arith))

-- after c pairs, r is left
pub record PairsTurn (n m l : ℕ) (q o₀ o : List ℕ) (c : ℕ) (r : List ℕ) : Type 0 where
  pub them : List Order
  pub many : length them ≡ c
  pub few : c ≤ 1024
  pub stored : o ≡ sets o₀ 1 (series_cells weightless one_order 0 them)
  pub goes : orders 1024 n m l [] q ≡ orders (1024 - c) n m (l + c) them r

pub pairs_start : (n m l : ℕ) (q o : List ℕ) → PairsTurn n m l q o o 0 q
unfolding series_cells
pairs_start n m l q o = record { them = []; many = refl; few = omega arith; stored = refl; goes = rw add-zero }

pair-cells : (p : Pair) → cell_of p.kind ∷ p.trainee ∷ p.depot ∷ [] ≡ one_order 0 (order_of p)
unfolding one_order kind_cell
pair-cells p = elim p.kind as (λ k. cell_of k ∷ p.trainee ∷ p.depot ∷ [] ≡ one_order 0 (pair_of (kind_of k) p.trainee p.depot)) [ Held ↦ refl | Barred ↦ refl ]

module _ {n m l : ℕ} {q o₀ o : List ℕ} {c : ℕ} {r : List ℕ} (T : PairsTurn n m l q o₀ o c r) where
  pub pairs-done : ((os : List Order) → orders (1024 - c) n m (l + c) os r ≡ got os []) → AllPairs (orders 1024 n m l [] q) o₀ (set o 0 c) c
  unfolding cells_of_orders
  pairs-done e =
      record {
        them = T.them;
        goes = T.goes ∙ e T.them;
        size = sym T.many;
        stored =
            ap (λ z. set z 0 c) T.stored
            ∙ set_before (series_cells weightless one_order 0 T.them) o₀ 1 0 c (omega arith)
            ∙ ap (λ z. sets (set o₀ 0 z) 1 (series_cells weightless one_order 0 T.them)) (sym T.many);
      }

  pub pairs-on : {p : Pair} {r' : List ℕ} → OneMore n m (l + c) c r p r'
      → PairsTurn n m l q o₀ (set (set (set o (1 + 3 * c) (cell_of p.kind)) (1 + 3 * c + 1) p.trainee) (1 + 3 * c + 2) p.depot) (c + 1) r'
  unfolding one_order
  pairs-on {p} {r'} M =
      record {
        them = T.them ++ order_of p ∷ [];
        many = length-append T.them (order_of p ∷ []) ∙ omega (arith, T.many);
        few = omega (arith, M.few);
        stored = cs;
        goes = T.goes ∙ M.goes T.them ∙ ap (λ z. orders (1024 - (c + 1)) n m z (T.them ++ order_of p ∷ []) r') (omega arith);
      }
    where
      start : 1 + length (series_cells weightless one_order 0 T.them) ≡ 1 + 3 * c
      start = ap (λ z. 1 + z) (series-cells weightless 3 one_order order-wide 0 T.them ∙ ap (λ z. 3 * z) T.many)

      cs : set (set (set o (1 + 3 * c) (cell_of p.kind)) (1 + 3 * c + 1) p.trainee) (1 + 3 * c + 2) p.depot
          ≡ sets o₀ 1 (series_cells weightless one_order 0 (T.them ++ order_of p ∷ []))
      cs =
          three-cells o (1 + 3 * c) (cell_of p.kind) p.trainee p.depot
          ∙ ap (sets o (1 + 3 * c)) (pair-cells p)
          ∙ ap₂ (λ z k. sets z k (one_order 0 (order_of p))) T.stored (sym start)
          ∙ sym (sets-append o₀ 1 (series_cells weightless one_order 0 T.them) (one_order 0 (order_of p)))
          ∙ ap (sets o₀ 1) (sym (series-end weightless one_order 0 T.them (order_of p)))

-- ---- the first line
