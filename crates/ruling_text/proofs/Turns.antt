-- A loop over lines that stores each line's numbers: what holds after c lines.
-- Assumes nothing.
use Prim.Native.Nat.{ℕ, suc, ◌+◌, ◌-◌, ◌*◌, ◌≤◌, ◌<◌}
use mathlib.Core.Path.{◌≡◌, refl, sym, ap, ◌∙◌}
use mathlib.Core.List.{List, [], ◌∷◌, ◌++◌, append_assoc, append-nil}
use native.Mathlib.Omega.{arith}
use native.Mathlib.Nat.{sub-zero, mul-zero, mul-suc}
use native.Mathlib.Numerals.{add-one}
use lib.ListN.{length, set, length-append}
use lib.Seq.{sets, length-sets}
use Rattle.fields.specs.Reader.{got, refusal, Reader, lines}
use Rattle.fields.proofs.Puts.{sets-append}
use Rattle.ruling_text.specs.Reader.{weightless, strike_fields, strike_line, cell_fields, cell_line}
use Rattle.ruling_text.specs.Cells.{joined}
use Rattle.ruling_text.specs.Code.{Filled}
use Rattle.meaning.specs.declared.Strike.{Strike}

joined_end : {A : Type 0} (f : A → List ℕ) (xs : List A) (x : A) → joined f (xs ++ x ∷ []) ≡ joined f xs ++ f x
unfolding joined
joined_end f [] x = append-nil (f x)
joined_end f (y ∷ xs) x = ap (λ z. f y ++ z) (joined_end f xs x) ∙ sym (append_assoc (f y) (joined f xs) (f x))

-- `one` reads a line; its value has `width` numbers, which stand in the cells behind those of the lines above
module _ {A : Type 0} (one : ℕ → ℕ → Reader A) (numbers : A → List ℕ) (width : ℕ) where
  pub record Turn (q : List ℕ) (n : ℕ) (t₀ t : List ℕ) (c : ℕ) (r : List ℕ) : Type 0 where
    pub them : List A
    pub total : ℕ
    pub used : length (joined numbers them) ≡ width * c
    pub cells : t ≡ sets t₀ 0 (joined numbers them)
    pub size : length t ≡ length t₀
    pub reads : lines one weightless n 1 0 [] q ≡ lines one weightless (n - c) (c + 1) total them r

  pub turn-start : (q : List ℕ) (n : ℕ) (t : List ℕ) → Turn q n t t 0 q
  unfolding joined
  turn-start q n t = record { them = []; total = 0; used = rw mul-zero; cells = refl; size = refl; reads = rw sub-zero }

  module _ {q : List ℕ} {n : ℕ} {t₀ t : List ℕ} {c : ℕ} {r : List ℕ} (T : Turn q n t₀ t c r) where
    pub turn-refused : {e l k : ℕ} → c < n → one (c + 1) T.total r ≡ refusal e l k → lines one weightless n 1 0 [] q ≡ refusal e l k
    unfolding lines
    turn-refused h g = let k : n - c ≡ suc (n - (c + 1)) = omega arith in T.reads ∙ rw k (rw g)

    pub turn_on : (x : A) {t' vs r' : List ℕ} → c < n → one (c + 1) T.total r ≡ got x r'
        → numbers x ≡ vs → length vs ≡ width → t' ≡ sets t (width * c) vs → Turn q n t₀ t' (c + 1) r'
    unfolding lines
    turn_on x {t'} {vs} h g e l z =
        record {
          them = T.them ++ x ∷ [];
          total = T.total + weightless x;
          used =
              ap length (joined_end numbers T.them x) ∙ length-append (joined numbers T.them) (numbers x)
              ∙ rw (T.used, e, l, add-one, mul-suc);
          cells =
              z
              ∙ ap (λ y. sets y (width * c) vs) T.cells
              ∙ ap (λ y. sets (sets t₀ 0 (joined numbers T.them)) y vs) at-end
              ∙ ap (λ y. sets (sets t₀ 0 (joined numbers T.them)) (0 + length (joined numbers T.them)) y) (sym e)
              ∙ sym (sets-append t₀ 0 (joined numbers T.them) (numbers x))
              ∙ ap (sets t₀ 0) (sym (joined_end numbers T.them x));
          size = ap length z ∙ length-sets t (width * c) vs ∙ T.size;
          reads = let k : n - c ≡ suc (n - (c + 1)) = omega arith in T.reads ∙ rw k (rw g);
        }
      where
        at-end : width * c ≡ 0 + length (joined numbers T.them)
        at-end = let u = T.used in omega arith

    pub turn-done : n ≤ c → Filled numbers (lines one weightless n 1 0 [] q) t₀ t r
    unfolding lines
    turn-done h =
        let k : n - c ≡ 0 = omega arith in
        record { them = T.them; goes = T.reads ∙ rw k; cells = T.cells }

-- ---- a line of a strike, and of a table

module _ (n c total : ℕ) (q : List ℕ) where
  pub strike-line-refused : {e k : ℕ} → strike_fields n q ≡ refusal e 0 k → strike_line n (c + 1) total q ≡ refusal e (c + 2) k
  unfolding strike_line
  strike-line-refused {e} {k} h = let l : c + 1 + 1 ≡ c + 2 = omega arith in rw h (ap (λ z. refusal e z k) l)

  pub strike-line-got : {x : Strike} {r : List ℕ} → strike_fields n q ≡ got x r → strike_line n (c + 1) total q ≡ got x r
  unfolding strike_line
  strike-line-got h = rw h

module _ (s c total : ℕ) (q : List ℕ) where
  pub cell-line-refused : {e k : ℕ} → cell_fields (c + 1) q ≡ refusal e 0 k → cell_line s (c + 1) total q ≡ refusal e (s + c + 2) k
  unfolding cell_line
  cell-line-refused {e} {k} h = let l : s + (c + 1) + 1 ≡ s + c + 2 = omega arith in rw h (ap (λ z. refusal e z k) l)

  pub cell-line-got : {j : ℕ} {r : List ℕ} → cell_fields (c + 1) q ≡ got j r → cell_line s (c + 1) total q ≡ got j r
  unfolding cell_line
  cell-line-got h = rw h

-- ---- cells stored

pub one-stored : (t : List ℕ) (c j : ℕ) → set t c j ≡ sets t (1 * c) (j ∷ [])
one-stored t c j = let e : c ≡ 1 * c = omega arith in ap (λ z. set t z j) e
