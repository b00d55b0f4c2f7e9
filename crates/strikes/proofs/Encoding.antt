-- Strikes in cells lose nothing: what is put is read back, other strikes stay, and one more put is one more strike. Assumes nothing.
use Prim.Native.Nat.{ℕ, zero, suc, ◌+◌, ◌*◌, ◌-◌, ◌≤◌, ◌<◌}
use native.Mathlib.Omega.{arith, ne_cases}
use native.Mathlib.Nat.{add-zero, eq-or-lt_of_le}
use native.Mathlib.Numerals.{add-one}
use mathlib.Core.Logic.{⊎_elim}
use mathlib.Core.Path.{◌≡◌, refl, sym, ap, ap₂, ◌∙◌}
use mathlib.Core.List.{List, [], ◌∷◌, ◌++◌, append_assoc}
use lib.ListN.{length, get_or, take, drop, length-append, length-drop, get_or-append}
use lib.Seq.{length-take-le, get_or-append-add, get_or-append_seam, get_or-take, get_or-drop, get_or_at, take_all, take-append-le}
use Rattle.meaning.specs.declared.Strike.{Strike}
use Rattle.meaning.specs.Answers.{reason_of, strike_numbers}
use Rattle.meaning.proofs.Answers.{reason-again}
use Rattle.strikes.specs.Cells.{strike_at, strikes_in, cells_with, blank, at}

-- ---- a strike and its four cells

pub four : (s : Strike) → length (strike_numbers s) ≡ 4
unfolding strike_numbers
four s = refl

-- four cells that follow `p` hold the strike that they are the numbers of
pub strike-here : (p r : List ℕ) (k : ℕ) (s : Strike) → length p ≡ 4 * k → strike_at (p ++ (strike_numbers s ++ r)) k ≡ s
unfolding strike_at strike_numbers
strike-here p r k s e =
    let c : (j : ℕ) → get_or (p ++ (strike_numbers s ++ r)) (4 * k + j) 0 ≡ get_or (strike_numbers s ++ r) j 0 = λ j. rw (← e) (get_or-append-add p (strike_numbers s ++ r) j 0) in
    let t : get_or (p ++ (strike_numbers s ++ r)) (4 * k) 0 ≡ s.trainee = rw (← e) (get_or-append_seam p s.trainee _ 0) in
    let d : get_or (p ++ (strike_numbers s ++ r)) (4 * k + 1) 0 ≡ s.depot = c 1 in
    let w : reason_of (get_or (p ++ (strike_numbers s ++ r)) (4 * k + 2) 0) (get_or (p ++ (strike_numbers s ++ r)) (4 * k + 3) 0) ≡ s.reason = ap₂ reason_of (c 2) (c 3) ∙ reason-again s.reason in
    λ i. record { trainee = t i; depot = d i; reason = w i }

-- strikes are told by their cells alone
pub strike-same : (a b : List ℕ) (j k : ℕ) → ((i : ℕ) → i < 4 → get_or a (4 * j + i) 0 ≡ get_or b (4 * k + i) 0) → strike_at a j ≡ strike_at b k
unfolding strike_at
strike-same a b j k f =
    let t : get_or a (4 * j) 0 ≡ get_or b (4 * k) 0 = rw (add-zero (4 * j), add-zero (4 * k)) at (f 0 (omega arith)) in
    let d : get_or a (4 * j + 1) 0 ≡ get_or b (4 * k + 1) 0 = f 1 (omega arith) in
    let w : reason_of (get_or a (4 * j + 2) 0) (get_or a (4 * j + 3) 0) ≡ reason_of (get_or b (4 * k + 2) 0) (get_or b (4 * k + 3) 0) = ap₂ reason_of (f 2 (omega arith)) (f 3 (omega arith)) in
    λ i. record { trainee = t i; depot = d i; reason = w i }

-- ---- strikes in the front of cells

pub count-strikes : (cells : List ℕ) (count : ℕ) → length (strikes_in cells count) ≡ count
unfolding strikes_in
count-strikes cells zero = refl
count-strikes cells (suc k) = length-append (strikes_in cells k) (strike_at cells k ∷ []) ∙ rw (count-strikes cells k) (omega arith)

-- cells that agree below `4 * count` hold the same first `count` strikes
pub strikes-same : (a b : List ℕ) (count : ℕ) → ((i : ℕ) → i < 4 * count → get_or a i 0 ≡ get_or b i 0) → strikes_in a count ≡ strikes_in b count
unfolding strikes_in
strikes-same a b zero f = refl
strikes-same a b (suc k) f =
    ap₂ (λ l s. l ++ (s ∷ [])) (strikes-same a b k (λ i h. f i (omega arith))) (strike-same a b k k (λ i h. f (4 * k + i) (omega arith)))

pub strikes-more : (cells : List ℕ) (k : ℕ) → strikes_in cells (suc k) ≡ strikes_in cells k ++ (strike_at cells k ∷ [])
unfolding strikes_in
strikes-more cells k = refl

pub no-strikes : (cells : List ℕ) → strikes_in cells 0 ≡ []
unfolding strikes_in
no-strikes cells = refl

-- the first k of more strikes
pub strikes-front : (cells : List ℕ) (count k : ℕ) → k ≤ count → take k (strikes_in cells count) ≡ strikes_in cells k
unfolding strikes_in
strikes-front cells zero zero h = refl
strikes-front cells zero (suc k) h = absurd (omega arith)
strikes-front cells (suc m) k h =
    let n : length (strikes_in cells m) ≡ m = count-strikes cells m in
    let n' : length (strikes_in cells (suc m)) ≡ suc m = count-strikes cells (suc m) in
    ⊎_elim
    (λ (e : k ≡ suc m). take_all k (strikes_in cells (suc m)) (omega arith) ∙ ap (strikes_in cells) (sym e))
    (λ (less : k < suc m). take-append-le k (strikes_in cells m) (strike_at cells m ∷ []) (omega arith) ∙ strikes-front cells m k (omega arith))
    (eq-or-lt_of_le h)

-- the k-th of them, counted from 0
pub strikes-nth : (cells : List ℕ) (count k : ℕ) → k < count → at (strikes_in cells count) k ≡ strike_at cells k
strikes-nth cells count k h =
    sym (get_or-take (suc k) (strikes_in cells count) k blank (omega arith)) ∙ ap (λ l. at l k) (strikes-front cells count (suc k) (omega arith)) ∙ last
  where
    last : at (strikes_in cells (suc k)) k ≡ strike_at cells k
    last = ap (λ l. at l k) (strikes-more cells k) ∙ get_or_at (strikes_in cells k) (strike_at cells k) [] blank k (count-strikes cells k)

-- ---- one strike put

module _ (cells : List ℕ) (k : ℕ) (s : Strike) (fits : 4 * k + 4 ≤ length cells) where
  front : length (take (4 * k) cells) ≡ 4 * k
  front = length-take-le (4 * k) cells (omega arith)

  pub put-length : length (cells_with cells k s) ≡ length cells
  unfolding cells_with
  put-length = simp (length-append, front, four, length-drop) (omega arith)

  pub put_back : strike_at (cells_with cells k s) k ≡ s
  unfolding cells_with
  put_back = strike-here (take (4 * k) cells) (drop (4 * k + 4) cells) k s front

  -- the cells before it stay
  pub put-before : (i : ℕ) → i < 4 * k → get_or (cells_with cells k s) i 0 ≡ get_or cells i 0
  unfolding cells_with
  put-before i h =
      let inside : i < length (take (4 * k) cells) = omega (arith, front) in
      get_or-append (take (4 * k) cells) _ 0 i inside ∙ get_or-take (4 * k) cells i 0 h

  -- and so do those after it
  pub put-after : (i : ℕ) → get_or (cells_with cells k s) (4 * k + 4 + i) 0 ≡ get_or cells (4 * k + 4 + i) 0
  unfolding cells_with
  put-after i =
      let seam : length (take (4 * k) cells ++ strike_numbers s) ≡ 4 * k + 4 = length-append (take (4 * k) cells) (strike_numbers s) ∙ rw (front, four s) in
      let e : get_or ((take (4 * k) cells ++ strike_numbers s) ++ drop (4 * k + 4) cells) (4 * k + 4 + i) 0 ≡ get_or (drop (4 * k + 4) cells) i 0 = rw (← seam) (get_or-append-add (take (4 * k) cells ++ strike_numbers s) _ i 0) in
      (rw append_assoc at e) ∙ get_or-drop (4 * k + 4) cells i 0

  pub put_other : (j : ℕ) → (j ≡ k → ⊥) → strike_at (cells_with cells k s) j ≡ strike_at cells j
  put_other j other = ne_cases j k _ other earlier later
    where
      earlier : j < k → strike_at (cells_with cells k s) j ≡ strike_at cells j
      earlier h = strike-same (cells_with cells k s) cells j j (λ i h'. put-before (4 * j + i) (omega arith))

      later : k < j → strike_at (cells_with cells k s) j ≡ strike_at cells j
      later h =
          strike-same (cells_with cells k s) cells j j (λ i h'.
          let e : 4 * j + i ≡ 4 * k + 4 + (4 * (j - suc k) + i) = omega arith in
          rw e (put-after (4 * (j - suc k) + i)))

  pub put-more : strikes_in (cells_with cells k s) (suc k) ≡ strikes_in cells k ++ (s ∷ [])
  unfolding strikes_in
  put-more = ap₂ (λ l x. l ++ (x ∷ [])) (strikes-same (cells_with cells k s) cells k put-before) put_back

  -- the same at a count that code makes
  pub put_next : strikes_in (cells_with cells k s) (k + 1) ≡ strikes_in cells k ++ (s ∷ [])
  put_next = rw add-one put-more
