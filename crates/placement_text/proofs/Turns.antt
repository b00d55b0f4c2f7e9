-- One law for each way through the functions that read a side's lines, and what a turn of their loops adds.
-- Assumes nothing.
use Prim.Native.Nat.{ℕ, suc, ◌+◌, ◌-◌, ◌*◌, ◌≤◌, ◌<◌}
use mathlib.Core.Path.{◌≡◌, refl, sym, ap, ap₂, subst, ◌∙◌}
use mathlib.Core.Option as maybe
use mathlib.Core.List.{List, [], ◌∷◌, ◌++◌, append-nil}
use native.Mathlib.Omega.{arith}
use native.Mathlib.Nat.{sub-zero}
use lib.ListN.{length, set, length-append}
use lib.Seq.{sets}
use Rattle.std.specs.Prelude.{Option, Some, None}
use Rattle.meaning.specs.Lists.{weigh}
use Rattle.meaning.specs.Placement.{depot, size, depot_size}
use Rattle.fields.specs.Reader.{got, refusal, Reader, numbered, lines}
use Rattle.fields.proofs.Puts.{sets-append}
use Rattle.tables.proofs.Series.{series-cells, joined-weigh, series-more, joined-more, weigh-more}
use Rattle.tables.proofs.One.{trainee-wide, entries-weigh, depot-wide, depot-weigh}
use Rattle.placement_text.specs.Words.{word_D}
use Rattle.placement_text.specs.Reader.{received, list, MOST, trainee_line, depot_of, depot_fields, depot_line}
use Rattle.tables.specs.Cells.{posts_cell, length_cell, list_cells, depot_list_cells, trainee_cells, depot_cells, series_cells, joined}
use Rattle.placement_text.specs.declared.DepotRow.{DepotRow}
use Rattle.placement_text.specs.Code.{told, cell_of, count_of, Row, Rows, ListRow, DepotRowRead}
use Rattle.placement_text.proofs.Sides.{trainee-back, depot-back}

-- ---- one line

module _ (n j total : ℕ) (q : List ℕ) where
  module _ {r : List ℕ} (h : numbered word_D j q ≡ got tt r) where
    module _ {ps : maybe.Option ℕ} {r' : List ℕ} (e : received 3 256 r ≡ got ps r') where
      depot-listed : {l : maybe.Option (List ℕ)} {r'' : List ℕ} → list 4 n total r' ≡ got l r'' → depot_fields n j total q ≡ got (depot ps l) r''
      unfolding depot_fields depot_of
      depot-listed f = rw h (rw e (rw f))

told-cell : (p : Option ℕ) → cell_of p ≡ posts_cell (told p)
unfolding posts_cell
told-cell (Some v) = refl
told-cell None = refl

pub depot-row : (n j total start : ℕ) (q : List ℕ) {t t' r r' r'' : List ℕ} (posts l : Option ℕ) → numbered word_D j q ≡ got tt r
    → received 3 256 r ≡ got (told posts) r' → ListRow (list 4 n total r') start t t' l r''
    → DepotRowRead (depot_fields n j total q) start t t' (record { posts = posts; list = l }) r''
unfolding depot_size depot_cells depot_list_cells trainee_cells
depot-row n j total start q posts l h e L =
    let e' : start ∷ cell_of l ∷ [] ≡ start ∷ length_cell L.it ∷ [] = L.head in
    let f : cell_of l ≡ length_cell L.it = cc in
    record {
      it = depot (told posts) L.it;
      goes = depot-listed n j total q h e L.goes;
      head = ap₂ (λ x y. start ∷ x ∷ y ∷ []) f (told-cell posts);
      size = L.size;
      stored = L.stored;
    }

-- ---- one more at the end

module _ {A : Type 0} (weight : A → ℕ) where
  weigh-end : (xs : List A) (a : A) → weigh weight (xs ++ a ∷ []) ≡ weigh weight xs + weight a
  unfolding weigh
  weigh-end xs a = weigh-more weight xs (a ∷ []) ∙ omega arith

  pub series-end : (cells : ℕ → A → List ℕ) (s : ℕ) (xs : List A) (a : A)
      → series_cells weight cells s (xs ++ a ∷ []) ≡ series_cells weight cells s xs ++ cells (s + weigh weight xs) a
  unfolding series_cells
  series-end cells s xs a = series-more weight cells s xs (a ∷ []) ∙ ap (λ z. series_cells weight cells s xs ++ z) (append-nil _)

joined_end : {A : Type 0} (own : A → List ℕ) (xs : List A) (a : A) → joined own (xs ++ a ∷ []) ≡ joined own xs ++ own a
unfolding joined
joined_end own xs a = joined-more own xs (a ∷ []) ∙ ap (λ z. joined own xs ++ z) (append-nil (own a))

-- ---- the loop over a side's lines

-- the heads of a side are `width` cells each, from `first` on; its entries stand from `base` on
module _ {A : Type 0} (one : ℕ → ℕ → Reader A) (weight : A → ℕ) (cells : ℕ → A → List ℕ) (own : A → List ℕ) (width first base : ℕ) where
  -- after c lines, r is left
  pub record Turn (q : List ℕ) (n : ℕ) (h₀ t₀ h t : List ℕ) (c total : ℕ) (r : List ℕ) : Type 0 where
    pub them : List A
    pub many : length them ≡ c
    pub size : total ≡ weigh weight them
    pub small : total ≤ MOST
    pub heads : h ≡ sets h₀ first (series_cells weight cells base them)
    pub stored : t ≡ sets t₀ base (joined own them)
    pub goes : lines one weight n 1 0 [] q ≡ lines one weight (n - c) (c + 1) total them r

  turn-start : (q : List ℕ) (n : ℕ) (h t : List ℕ) → Turn q n h t h t 0 0 q
  unfolding series_cells joined weigh
  turn-start q n h t =
      record {
        them = [];
        many = refl;
        size = refl;
        small = omega arith;
        heads = refl;
        stored = refl;
        goes = rw sub-zero;
      }

  module _ {q : List ℕ} {n : ℕ} {h₀ t₀ h t : List ℕ} {c total : ℕ} {r : List ℕ} (T : Turn q n h₀ t₀ h t c total r) where
    turn-refused : {x l f : ℕ} → c < n → one (c + 1) total r ≡ refusal x l f → lines one weight n 1 0 [] q ≡ refusal x l f
    unfolding lines
    turn-refused b e = let k : n - c ≡ suc (n - (c + 1)) = omega arith in T.goes ∙ rw k (rw e)

    turn-goes : {a : A} {r' : List ℕ} → c < n → one (c + 1) total r ≡ got a r'
        → lines one weight n 1 0 [] q ≡ lines one weight (n - (c + 1)) (c + 1 + 1) (total + weight a) (T.them ++ a ∷ []) r'
    unfolding lines
    turn-goes b e = let k : n - c ≡ suc (n - (c + 1)) = omega arith in T.goes ∙ rw k (rw e)

    -- one more line, whose head goes behind those above
    turn_on : ((s : ℕ) (a : A) → length (cells s a) ≡ width) → ((a : A) → length (own a) ≡ weight a) → (t' row : List ℕ) (count : ℕ) (r' : List ℕ) → c < n
        → (R : Row weight cells own (one (c + 1) total r) (base + total) t t' row count r') → total + weight R.it ≤ MOST
        → Turn q n h₀ t₀ (sets h (first + width * c) row) t' (c + 1) (total + count) r'
    turn_on wide owned t' row count r' b R m =
        record {
          them = T.them ++ a ∷ [];
          many = length-append T.them (a ∷ []) ∙ omega (arith, T.many);
          size = omega (arith, T.size, weigh-end weight T.them a, R.size);
          small = omega (arith, m, R.size);
          heads = hs;
          stored = ts;
          goes = turn-goes b R.goes ∙ ap (λ z. lines one weight (n - (c + 1)) (c + 1 + 1) (total + z) (T.them ++ a ∷ []) r') (sym R.size);
        }
      where
        a : A
        a = R.it

        at-h : first + length (series_cells weight cells base T.them) ≡ first + width * c
        at-h = ap (λ z. first + z) (series-cells weight width cells wide base T.them ∙ ap (λ z. width * z) T.many)

        at-t : base + length (joined own T.them) ≡ base + total
        at-t = ap (λ z. base + z) (joined-weigh weight own owned T.them ∙ sym T.size)

        hs : sets h (first + width * c) row ≡ sets h₀ first (series_cells weight cells base (T.them ++ a ∷ []))
        hs =
            ap (sets h (first + width * c)) R.head
            ∙ ap₂ (λ z k. sets z k (cells (base + total) a)) T.heads (sym at-h)
            ∙ sym (sets-append h₀ first (series_cells weight cells base T.them) (cells (base + total) a))
            ∙ ap (λ z. sets h₀ first (series_cells weight cells base T.them ++ cells (base + z) a)) T.size
            ∙ ap (sets h₀ first) (sym (series-end weight cells base T.them a))

        ts : t' ≡ sets t₀ base (joined own (T.them ++ a ∷ []))
        ts =
            R.stored
            ∙ ap₂ (λ z k. sets z k (own a)) T.stored (sym at-t)
            ∙ sym (sets-append t₀ base (joined own T.them) (own a))
            ∙ ap (sets t₀ base) (sym (joined_end own T.them a))

    turn-done : n ≤ c → Rows weight cells own (lines one weight n 1 0 [] q) first base h₀ h t₀ t total r
    unfolding lines
    turn-done b =
        let k : n - c ≡ 0 = omega arith in
        record { them = T.them; goes = T.goes ∙ rw k; heads = T.heads; size = T.size; stored = T.stored }

-- ---- trainees

pub two_cells : (h : List ℕ) (i x y : ℕ) → set (set h i x) (i + 1) y ≡ sets h i (x ∷ y ∷ [])
two_cells h i x y = let e : i + 1 ≡ suc i = omega arith in ap (λ z. set (set h i x) z y) e

-- the heads stand behind the first three cells, and the entries at the front
abbrev pub TraineeTurn : ℕ → List ℕ → ℕ → List ℕ → List ℕ → List ℕ → List ℕ → ℕ → ℕ → List ℕ → Type 0
TraineeTurn m = Turn (trainee_line m) size trainee_cells list_cells 2 3 0

pub trainee-start : (m : ℕ) (q : List ℕ) (n : ℕ) (h t : List ℕ) → TraineeTurn m q n h t h t 0 0 q
trainee-start m = turn-start (trainee_line m) size trainee_cells list_cells 2 3 0

module _ (m : ℕ) {q : List ℕ} {n : ℕ} {h₀ t₀ h t : List ℕ} {c total : ℕ} {r : List ℕ} (T : TraineeTurn m q n h₀ t₀ h t c total r) where
  pub trainee-done : n ≤ c → Rows size trainee_cells list_cells (lines (trainee_line m) size n 1 0 [] q) 3 0 h₀ h t₀ t total r
  trainee-done = turn-done (trainee_line m) size trainee_cells list_cells 2 3 0 T

  module _ (b : c < n) where
    pub trainee-turn-refused : {x l f : ℕ} → trainee_line m (c + 1) total r ≡ refusal x l f → lines (trainee_line m) size n 1 0 [] q ≡ refusal x l f
    trainee-turn-refused e = turn-refused (trainee_line m) size trainee_cells list_cells 2 3 0 T b e

    module _ (t' : List ℕ) (l : Option ℕ) (r' : List ℕ) (R : ListRow (trainee_line m (c + 1) total r) (0 + total) t t' l r') where
      list-weighs : total + size R.it ≤ MOST
      list-weighs = (trainee-back m (c + 1) total r R.it r' R.goes).fits T.small

      pub trainee-turn-on : TraineeTurn m q n h₀ t₀ (set (set h (3 + 2 * c) total) (3 + 2 * c + 1) (cell_of l)) t' (c + 1) (total + count_of l) r'
      trainee-turn-on =
          rw two_cells
          (subst (λ (x : ℕ). TraineeTurn m q n h₀ t₀ (sets h (3 + 2 * c) (x ∷ cell_of l ∷ [])) t' (c + 1) (total + count_of l) r') (omega arith)
          (turn_on (trainee_line m) size trainee_cells list_cells 2 3 0 T trainee-wide entries-weigh t' _ _ r' b R list-weighs))

-- ---- depots

pub three-cells : (h : List ℕ) (i x y z : ℕ) → set (set (set h i x) (i + 1) y) (i + 2) z ≡ sets h i (x ∷ y ∷ z ∷ [])
three-cells h i x y z =
    let e : i + 1 ≡ suc i = omega arith in
    let f : i + 2 ≡ suc (suc i) = omega arith in
    ap₂ (λ j k. set (set (set h i x) j y) k z) e f

-- the heads stand behind those of n trainees, and the entries from `base` on
abbrev pub DepotTurn : ℕ → ℕ → List ℕ → ℕ → List ℕ → List ℕ → List ℕ → List ℕ → ℕ → ℕ → List ℕ → Type 0
DepotTurn n base = Turn (depot_line n) depot_size depot_cells depot_list_cells 3 (3 + 2 * n) base

pub depot-start : (n base : ℕ) (q : List ℕ) (m : ℕ) (h t : List ℕ) → DepotTurn n base q m h t h t 0 0 q
depot-start n base = turn-start (depot_line n) depot_size depot_cells depot_list_cells 3 (3 + 2 * n) base

module _ (n base : ℕ) {q : List ℕ} {m : ℕ} {h₀ t₀ h t : List ℕ} {c total : ℕ} {r : List ℕ} (T : DepotTurn n base q m h₀ t₀ h t c total r) where
  pub depot-done : m ≤ c → Rows depot_size depot_cells depot_list_cells (lines (depot_line n) depot_size m 1 0 [] q) (3 + 2 * n) base h₀ h t₀ t total r
  depot-done = turn-done (depot_line n) depot_size depot_cells depot_list_cells 3 (3 + 2 * n) base T

  module _ (b : c < m) where
    pub depot-turn-refused : {x l f : ℕ} → depot_line n (c + 1) total r ≡ refusal x l f → lines (depot_line n) depot_size m 1 0 [] q ≡ refusal x l f
    depot-turn-refused e = turn-refused (depot_line n) depot_size depot_cells depot_list_cells 3 (3 + 2 * n) base T b e

    module _ (t' : List ℕ) (d : DepotRow) (r' : List ℕ) (R : DepotRowRead (depot_line n (c + 1) total r) (base + total) t t' d r') where
      depot-weighs : total + depot_size R.it ≤ MOST
      depot-weighs = (depot-back n (c + 1) total r R.it r' R.goes).fits T.small

      pub depot-turn-on : DepotTurn n base q m h₀ t₀ (set (set (set h (3 + 2 * n + 3 * c) (base + total)) (3 + 2 * n + 3 * c + 1) (cell_of d.list)) (3 + 2 * n + 3 * c + 2) (cell_of d.posts))
          t' (c + 1) (total + count_of d.list) r'
      depot-turn-on =
          rw three-cells (turn_on (depot_line n) depot_size depot_cells depot_list_cells 3 (3 + 2 * n) base T depot-wide depot-weigh t' _ _ r' b R depot-weighs)
