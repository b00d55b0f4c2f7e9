-- What the parts of a line say, by the cells.
-- Assumes nothing.
use Prim.Native.Nat.{ℕ, zero, suc, ◌+◌, ◌≤◌, ◌<◌}
use mathlib.Core.Path.{◌≡◌, refl, sym, ap, ap₂, ◌∙◌}
use mathlib.Core.Option.{none, some}
use Rattle.std.specs.Prelude.{Option as Answer, Some, None, IfSome}
use mathlib.Core.List.{List, [], ◌∷◌, ◌++◌, append_assoc}
use native.Mathlib.Omega.{arith}
use lib.ListN.{length, get_or, drop, length-drop, length-append}
use lib.Seq.{length-take-le}
use borrow.Author.Tests.{eq-eqb, ne_eqb}
use Rattle.fields.specs.Writer.{write_number, write_numbers, write_line, write_lines, lines_by}
use Rattle.tables.specs.Cells.{missing_cell, part, CellGives, trainee_start, depot_start, order_start}
use Rattle.placement_text.specs.Words.{word_?, word_placement, letter}
use Rattle.placement_text.specs.Writer.{or_mark, write_received, write_entries, write_list, write_trainee, write_depot, write_orders, write_order, write_head, write_end}
use Rattle.meaning.specs.Placement.{Order}
use Rattle.tables.specs.Kinds.{KindGives}
use Rattle.tables.specs.declared.Kind.{Kind}
use Rattle.tables.specs.declared.Kind.TheVariants.{Held, Barred}
use Rattle.placement_writer.specs.Held.{number_in, received_in, list_in, depot_in, kind_in, kind_given, order_in, run, ListRoom}
use Rattle.placement_writer.proofs.Held.{text_in}

-- ---- what was received, or not

pub missing : 9 ∷ word_? ≡ write_received none
unfolding write_received or_mark
missing = refl

pub given : (v : ℕ) → write_number v ≡ write_received (some v)
unfolding write_received or_mark write_number
given v = refl

-- what a cell gives is what it says
pub cell-says : (c : ℕ) (v : Answer ℕ) → CellGives c v → number_in c ≡ received_in v
unfolding number_in
cell-says c (Some w) k = rw (ne_eqb c missing_cell k.1, number_in) (ap some (sym k.0))
cell-says c None k = rw (eq-eqb c missing_cell k, number_in)

-- and it fits a cell
pub cell-small : (c : ℕ) (v : Answer ℕ) → CellGives c v → c < 65536 → IfSome v (λ w. w < 65536)
cell-small c (Some w) k h = rw k.0 h
cell-small c None k h = tt

-- ---- a list

numbers-entries : (l : List ℕ) → write_numbers l ≡ write_entries l
unfolding write_numbers write_entries
numbers-entries [] = refl
numbers-entries (v ∷ l) = ap (λ z. write_number v ++ z) (numbers-entries l)

module _ (h e : List ℕ) (at : ℕ) where
  pub list-missing : get_or h (at + 1) 0 ≡ missing_cell → write_received none ≡ write_list (list_in h e at)
  unfolding list_in write_list write_received or_mark
  list-missing m = rw (eq-eqb (get_or h (at + 1) 0) missing_cell m, list_in)

  pub list-given : ListRoom h e at → (v : ℕ) → v ≡ get_or h (at + 1) 0 → (get_or h (at + 1) 0 ≡ missing_cell → ⊥)
      → write_received (some v) ++ write_numbers (part h e at) ≡ write_list (list_in h e at)
  unfolding list_in write_list write_received or_mark part write_number
  list-given r v is m =
      let f = r.fits m in
      let d = length-drop (get_or h at 0) e in
      let l : length (part h e at) ≡ v = length-take-le (get_or h (at + 1) 0) (drop (get_or h at 0) e) (omega arith) ∙ sym is in
      ap₂ (λ x y. x ++ y) (sym (given v) ∙ sym (ap write_number l)) (numbers-entries (part h e at)) ∙ rw (ne_eqb (get_or h (at + 1) 0) missing_cell m, list_in, write_number) refl

  -- there is room for the first part
  pub list-front : ListRoom h e at → (v : Answer ℕ) → CellGives (get_or h (at + 1) 0) v → length (write_received (received_in v)) ≤ length (write_list (list_in h e at))
  list-front r (Some w) k = let g = ap length (list-given r w k.0 k.1) in omega (arith, length-append (write_received (some w)) (write_numbers (part h e at)))
  list-front r None k = let m = ap length (list-missing k) in omega arith

-- ---- a pair

pub kind-says : (c : ℕ) (k : Answer Kind) → KindGives c k → kind_in c ≡ kind_given k
unfolding kind_in
kind-says c (Some Held) g = rw (eq-eqb c 0 (sym g), kind_in)
kind-says c (Some Barred) g = rw (ne_eqb c 0 (λ z. let o : c ≡ 1 = sym g in omega arith), kind_in)
kind-says c None g = rw (ne_eqb c 0 (λ z. omega arith), kind_in)

module _ (o : List ℕ) (at : ℕ) (k : Answer Kind) {w : List ℕ} {i j : ℕ} where
  pub order-line : w ≡ letter (kind_given k) → KindGives (get_or o at 0) k → i ≡ get_or o (at + 1) 0 → j ≡ get_or o (at + 2) 0 → write_line w (i ∷ j ∷ []) ≡ write_order (order_in o at)
  unfolding write_line write_numbers write_order order_in
  order-line a b c d = rw (a, ← kind-says _ _ b, c, d) (simp append_assoc)

pub head-line : (n m : ℕ) → write_line word_placement (1 ∷ n ∷ m ∷ []) ≡ write_head 1 n m
unfolding write_line write_numbers write_head
head-line n m = simp append_assoc

-- ---- lines

run-lines : {A : Type 0} (f : ℕ → A → List ℕ) (h : ℕ → A) (i d : ℕ) → lines_by (λ q. f q (h q)) i d ≡ write_lines f i (run h d i)
unfolding lines_by write_lines run
run-lines f h i zero = refl
run-lines f h i (suc d) = ap (λ z. f i (h i) ++ z) (run-lines f h (i + 1) d)

run-orders : (h : ℕ → Order) (i d : ℕ) → lines_by (λ k. write_order (h k)) i d ≡ write_orders (run h d i)
unfolding lines_by write_orders run
run-orders h i zero = refl
run-orders h i (suc d) = ap (λ z. write_order (h i) ++ z) (run-orders h (i + 1) d)

-- what is put for the cells, part by part
module _ (h e o : List ℕ) (n m c : ℕ) where
  abbrev pub trainees_put : List ℕ
  trainees_put = lines_by (λ i. write_trainee i (list_in h e (trainee_start i))) 1 n

  abbrev pub depots_put : List ℕ
  depots_put = lines_by (λ j. write_depot j (depot_in h e (depot_start n j))) 1 m

  abbrev pub orders_put : List ℕ
  orders_put = lines_by (λ k. write_order (order_in o (order_start k))) 0 c

  pub text-put : write_line word_placement (1 ∷ n ∷ m ∷ []) ++ trainees_put ++ depots_put ++ orders_put ++ write_end ≡ text_in h e o n m c
  unfolding text_in
  text-put =
      rw (
        head-line n m,
        run-lines write_trainee (λ i. list_in h e (trainee_start i)) 1 n,
        run-lines write_depot (λ j. depot_in h e (depot_start n j)) 1 m,
        run-orders (λ k. order_in o (order_start k)) 0 c,
      ) refl
