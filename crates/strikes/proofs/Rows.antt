-- A record filled from cells, and cells filled from a record: the list after each turn of either loop, and what the two leave. Assumes nothing.
use Prim.Native.Nat.{ℕ, zero, suc, ◌+◌, ◌*◌, ◌≤◌, ◌<◌}
use native.Mathlib.Omega.{arith}
use native.Mathlib.Numerals.{add-one}
use mathlib.Core.Path.{◌≡◌, refl, sym, ap, ap₂, ◌∙◌}
use mathlib.Core.List.{List, [], ◌∷◌, ◌++◌, append_assoc, append-nil}
use lib.ListN.{length, take, drop, set, length-append, length-drop}
use lib.Seq.{length-take-le, drop-append-add, drop-drop, drop-cons, set_at, take_at, take-suc, take_all, split_at}
use Rattle.meaning.specs.declared.Strike.{Strike}
use Rattle.meaning.specs.Answers.{strike_numbers}
use Rattle.strikes.specs.Cells.{strike_at, strikes_in, cells_with, cells_of, filled, flat, at}
use Rattle.strikes.proofs.Encoding.{four, strike-here, count-strikes, strikes-nth}

-- ---- a record's front filled with the strikes of cells

module _ (cells : List ℕ) (old : List Strike) where
  pub fill_start : old ≡ filled cells old 0
  unfolding strikes_in
  fill_start = refl

  pub fill-length : (k : ℕ) → k ≤ length old → length (filled cells old k) ≡ length old
  fill-length k h = simp (length-append, count-strikes, length-drop) (omega arith)

  pub fill_more : (k : ℕ) → k < length old → set (filled cells old k) k (strike_at cells k) ≡ filled cells old (suc k)
  unfolding strikes_in
  fill_more k h =
      let s : Strike = strike_at cells k in
      ap (λ l. set (strikes_in cells k ++ l) k s) (drop-cons old k s h)
      ∙ set_at (strikes_in cells k) _ (drop (suc k) old) s k (count-strikes cells k)
      ∙ sym (append_assoc (strikes_in cells k) (s ∷ []) (drop (suc k) old))

-- ---- the cells of strikes

pub cells-first : (s : Strike) (ss : List Strike) → cells_of (s ∷ ss) ≡ strike_numbers s ++ cells_of ss
unfolding cells_of
cells-first s ss = refl

pub cells-one : (s : Strike) → cells_of (s ∷ []) ≡ strike_numbers s
unfolding cells_of
cells-one s = append-nil (strike_numbers s)

pub cells-append : (a b : List Strike) → cells_of (a ++ b) ≡ cells_of a ++ cells_of b
unfolding cells_of
cells-append [] b = refl
cells-append (s ∷ a) b = ap (λ l. strike_numbers s ++ l) (cells-append a b) ∙ sym (append_assoc (strike_numbers s) (cells_of a) (cells_of b))

pub cells-length : (ss : List Strike) → length (cells_of ss) ≡ 4 * length ss
unfolding cells_of
cells-length [] = refl
cells-length (s ∷ ss) = length-append (strike_numbers s) (cells_of ss) ∙ rw (four s, cells-length ss) (omega arith)

-- cells that begin with those of strikes hold these strikes
pub strikes-of : (ss : List Strike) (r : List ℕ) (k : ℕ) → k ≤ length ss → strikes_in (cells_of ss ++ r) k ≡ take k ss
unfolding strikes_in
strikes-of ss r zero h = refl
strikes-of ss r (suc k) h =
    let inside : k < length ss = omega arith in
    let s : Strike = at ss k in
    let p : List ℕ = cells_of (take k ss) in
    let long : length p ≡ 4 * k = cells-length (take k ss) ∙ ap (λ n. 4 * n) (length-take-le k ss (omega arith)) in
    let e : cells_of ss ++ r ≡ p ++ (strike_numbers s ++ (cells_of (drop (suc k) ss) ++ r)) =
    ap (λ l. cells_of l ++ r) (split_at ss k _ inside)
    ∙ ap (λ l. l ++ r) (cells-append (take k ss) (s ∷ drop (suc k) ss) ∙ ap (λ l. p ++ l) (cells-first s (drop (suc k) ss)))
    ∙ append_assoc p (strike_numbers s ++ cells_of (drop (suc k) ss)) r
    ∙ ap (λ l. p ++ l) (append_assoc (strike_numbers s) (cells_of (drop (suc k) ss)) r) in
    let here : strike_at (cells_of ss ++ r) k ≡ s = ap (λ l. strike_at l k) e ∙ strike-here p (cells_of (drop (suc k) ss) ++ r) k s long in
    ap₂ (λ l x. l ++ (x ∷ [])) (strikes-of ss r k (omega arith)) here ∙ sym (take-suc ss k _ inside)

-- ---- cells filled with a record's front

module _ (log : List Strike) (old : List ℕ) where
  pub flat_start : old ≡ flat log old 0
  unfolding cells_of
  flat_start = refl

  pub flat-front : (k : ℕ) → k ≤ length log → length (cells_of (take k log)) ≡ 4 * k
  flat-front k h = cells-length (take k log) ∙ ap (λ n. 4 * n) (length-take-le k log h)

  pub flat-length : (k : ℕ) → k ≤ length log → 4 * k ≤ length old → length (flat log old k) ≡ length old
  flat-length k h fits = simp (length-append, flat-front k h, length-drop) (omega arith)

  pub flat-more : (k : ℕ) → k < length log → 4 * k + 4 ≤ length old → cells_with (flat log old k) k (at log k) ≡ flat log old (suc k)
  unfolding cells_with
  flat-more k h fits =
      let s : Strike = at log k in
      let p : List ℕ = cells_of (take k log) in
      let long : length p ≡ 4 * k = flat-front k (omega arith) in
      let front : take (4 * k) (flat log old k) ≡ p = take_at p (drop (4 * k) old) (4 * k) long in
      let four-more : 4 * k + 4 ≡ 4 * suc k = omega arith in
      let back : drop (4 * k + 4) (flat log old k) ≡ drop (4 * suc k) old =
      ap (λ n. drop (n + 4) (flat log old k)) (sym long) ∙ drop-append-add p (drop (4 * k) old) 4 ∙ drop-drop 4 (4 * k) old ∙ ap (λ n. drop n old) four-more in
      let more : cells_of (take (suc k) log) ≡ p ++ strike_numbers s =
      ap cells_of (take-suc log k _ h) ∙ cells-append (take k log) (s ∷ []) ∙ ap (λ l. p ++ l) (cells-one s) in
      ap₂ (λ a b. a ++ (strike_numbers s ++ b)) front back ∙ sym (append_assoc p (strike_numbers s) (drop (4 * suc k) old)) ∙ ap (λ l. l ++ drop (4 * suc k) old) (sym more)

  -- the cells hold the record's front
  pub flat-strikes : (k : ℕ) → k ≤ length log → strikes_in (flat log old k) k ≡ take k log
  flat-strikes k h =
      let l : length (take k log) ≡ k = length-take-le k log h in
      strikes-of (take k log) (drop (4 * k) old) k (omega arith) ∙ take_all k (take k log) (omega arith)

  -- flattened and filled in again, the strikes are the same
  pub flat-filled : (k : ℕ) → k ≤ length log → (other : List Strike) → filled (flat log old k) other k ≡ take k log ++ drop k other
  flat-filled k h other = ap (λ l. l ++ drop k other) (flat-strikes k h)

-- ---- the strikes of some cells laid over others

module _ (cells old : List ℕ) (count : ℕ) where
  pub lay-length : (k : ℕ) → k ≤ count → 4 * k ≤ length old → length (flat (strikes_in cells count) old k) ≡ length old
  lay-length k h fits = flat-length (strikes_in cells count) old k (rw (count-strikes cells count) h) fits

  pub lay-more : (out out' : List ℕ) (k : ℕ) (s : Strike) → k < count → 4 * k + 4 ≤ length old → out ≡ flat (strikes_in cells count) old k → s ≡ strike_at cells k → out' ≡ cells_with out k s
      → out' ≡ flat (strikes_in cells count) old (k + 1)
  lay-more out out' k s h fits was is put =
      put
      ∙ ap₂ (λ l x. cells_with l k x) was (is ∙ sym (strikes-nth cells count k h))
      ∙ flat-more (strikes_in cells count) old k (rw (count-strikes cells count) h) fits
      ∙ ap (flat (strikes_in cells count) old) (sym (add-one k))
