-- The whole text, from what was read of its parts; and the cells of the parts, one after the other, as those of the whole.
-- Assumes nothing.
use Prim.Native.Nat.{ℕ, ◌+◌, ◌*◌, ◌≤◌, ◌<◌}
use mathlib.Core.Path.{◌≡◌, sym, ap, ap₂, ◌∙◌}
use mathlib.Core.Option.{Option}
use mathlib.Core.List.{List, []}
use native.Mathlib.Omega.{arith}
use lib.ListN.{length, set}
use lib.Seq.{sets}
use borrow.Author.Tests.{le-leb, lt-leb}
use Rattle.meaning.specs.Lists.{weigh}
use Rattle.meaning.specs.Placement.{Order, Depot, Placement, size, depot_size}
use Rattle.tables.specs.Cells.{trainee_cells, depot_cells, list_cells, depot_list_cells, series_cells, joined, head_cells, entry_cells}
use Rattle.tables.proofs.Series.{series-cells, joined-weigh}
use Rattle.tables.proofs.One.{trainee-wide, entries-weigh}
use Rattle.fields.specs.Reader.{got, refusal, lines}
use Rattle.fields.proofs.Puts.{sets-append}
use Rattle.placement_text.specs.Reader.{trainee_line, depot_line, orders, head_fields, body, placement, taken, refused, outcome, read_text}
use Rattle.placement_text.specs.Code.{head_of}

-- ---- each way through the whole text

module _ (s : List ℕ) where
  pub read-long : 65536 < length s → read_text s ≡ refused 2 0 0
  unfolding read_text
  read-long h = rw (lt-leb (length s) 65536 h, read_text)

  module _ (short : length s ≤ 65536) where
    read_step : read_text s ≡ outcome (placement s)
    unfolding read_text
    read_step = rw (le-leb (length s) 65536 short, read_text)

    pub head-refused : {x f : ℕ} → head_fields s ≡ refusal x 0 f → read_text s ≡ refused x 1 f
    unfolding placement outcome
    head-refused e = read_step ∙ rw e

    module _ {n m : ℕ} {r₁ : List ℕ} (h : head_fields s ≡ got (head_of 1 n m) r₁) where
      pub trainees-refused : {x l f : ℕ} → lines (trainee_line m) size n 1 0 [] r₁ ≡ refusal x l f → read_text s ≡ refused x l f
      unfolding placement body outcome
      trainees-refused e = read_step ∙ rw h (rw e)

      module _ {ts : List (Option (List ℕ))} {r₂ : List ℕ} (t : lines (trainee_line m) size n 1 0 [] r₁ ≡ got ts r₂) where
        pub depots-refused : {x l f : ℕ} → lines (depot_line n) depot_size m 1 0 [] r₂ ≡ refusal x l f → read_text s ≡ refused x l f
        unfolding placement body outcome
        depots-refused e = read_step ∙ rw h (rw t (rw e))

        module _ {ds : List Depot} {r₃ : List ℕ} (d : lines (depot_line n) depot_size m 1 0 [] r₂ ≡ got ds r₃) where
          pub orders-refused : {x l f : ℕ} → orders 1024 n m (n + m + 2) [] r₃ ≡ refusal x l f → read_text s ≡ refused x l f
          unfolding placement body outcome
          orders-refused e = read_step ∙ rw h (rw t (rw d (rw e)))

          pub all-taken : {os : List Order} {r₄ : List ℕ} → orders 1024 n m (n + m + 2) [] r₃ ≡ got os r₄
              → read_text s ≡ taken (record { edition = 1; trainees = ts; depots = ds; orders = os })
          unfolding placement body outcome
          all-taken e = read_step ∙ rw h (rw t (rw d (rw e)))

-- ---- the cells of both sides

module _ (p : Placement) where
  -- the heads of the trainees behind the first three cells, and those of the depots behind them
  pub heads-joined : (h : List ℕ) (n : ℕ) → length p.trainees ≡ n
      → sets
      (sets (set (set (set h 0 p.edition) 1 n) 2 (length p.depots)) 3 (series_cells size trainee_cells 0 p.trainees))
      (3 + 2 * n)
      (series_cells depot_size depot_cells (weigh size p.trainees) p.depots)
      ≡ sets h 0 (head_cells p)
  unfolding head_cells
  heads-joined h n c =
      let ts : List ℕ = series_cells size trainee_cells 0 p.trainees in
      let ds : List ℕ = series_cells depot_size depot_cells (weigh size p.trainees) p.depots in
      let start : 3 + 2 * n ≡ 3 + length ts = ap (λ z. 3 + z) (ap (λ z. 2 * z) (sym c) ∙ sym (series-cells size 2 trainee_cells trainee-wide 0 p.trainees)) in
      ap₂ (λ k z. sets (sets (set (set (set h 0 p.edition) 1 k) 2 (length p.depots)) 3 ts) z ds) (sym c) start
      ∙ sym (sets-append (set (set (set h 0 p.edition) 1 (length p.trainees)) 2 (length p.depots)) 3 ts ds)

  -- the entries of the trainees, and those of the depots behind them
  pub entries-joined : (t : List ℕ)
      → sets (sets t 0 (joined list_cells p.trainees)) (weigh size p.trainees) (joined depot_list_cells p.depots) ≡ sets t 0 (entry_cells p)
  unfolding entry_cells
  entries-joined t =
      let ts : List ℕ = joined list_cells p.trainees in
      let start : weigh size p.trainees ≡ 0 + length ts = omega (arith, joined-weigh size list_cells entries-weigh p.trainees) in
      ap (λ z. sets (sets t 0 ts) z (joined depot_list_cells p.depots)) start
      ∙ sym (sets-append t 0 ts (joined depot_list_cells p.depots))
