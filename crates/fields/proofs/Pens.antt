-- What a pen puts one after the other, and the room for it.
use Prim.Native.Nat.{ℕ, suc, ◌+◌, ◌-◌, ◌%◌, ◌≤◌, ◌<◌}
use mathlib.Core.Path.{◌≡◌, refl, sym, ap, ap₂, ◌∙◌, subst}
use mathlib.Core.List.{List, [], ◌∷◌, ◌++◌, append-nil, append_assoc}
use native.Mathlib.Omega.{arith}
use native.Mathlib.Nat.{add-zero}
use native.Mathlib.Numerals.{add-one}
use lib.ListN.{length, get_or, drop, length-append}
use lib.Seq.{drop-cons}
use Rattle.std.proofs.lemmas.List.{drop_all}
use Rattle.fields.specs.declared.pen.Pen.{Pen}
use Rattle.fields.specs.Number.{digits_of}
use Rattle.fields.specs.Writer.{write_number, write_numbers, write_lines, lines_by}
use Rattle.fields.specs.Leaves.{Put}
use Rattle.fields.specs.Pen.{Room, Wrote}
use Rattle.fields.proofs.Puts.{put_then, digits-one}

pub wrote_none : (p : Pen) → Wrote p p []
wrote_none p = record { same = refl; size = refl; put = record { cells = refl; next = sym (add-zero p.at) } }

pub wrote_as : {p q : Pen} {x y : List ℕ} → x ≡ y → Wrote p q x → Wrote p q y
wrote_as {p} {q} e W = subst (λ z. Wrote p q z) e W

pub wrote_then : {p q r : Pen} {x y : List ℕ} → Wrote p q x → Wrote q r y → Wrote p r (x ++ y)
wrote_then V W = record { same = W.same ∙ V.same; size = W.size ∙ V.size; put = put_then V.put W.put }

-- the pen is given up: what its output's name stood for at the end, out', is what the pen left there
pub put_through : {p q : Pen} {x : List ℕ} → Wrote p q x → (out' : List ℕ) → (p.out.ghost_name ≡ q.out.ghost_name → out' ≡ q.out.now) → Put p.out.now out' p.at x q.at
put_through {p} {q} {x} W out' f = subst (λ z. Put p.out.now z p.at x q.at) (sym (f (sym W.same))) W.put

-- the front of what fits does
pub room-front : (p : Pen) (x y : List ℕ) → Room p (x ++ y) → Room p x
room-front p x y h = let l = length-append x y in omega arith

-- after the front there is room for the rest
pub room_next : {p q : Pen} {x : List ℕ} (y : List ℕ) → Wrote p q x → Room p (x ++ y) → Room q y
room_next {p} {q} {x} y W h = let l = length-append x y in omega (arith, W.put.next, W.size)

-- ---- digits

pub digits-first : {p q : Pen} (v : ℕ) → v < 10 → Wrote p q ((48 + v % 10) ∷ []) → Wrote p q (digits_of v)
digits-first v h W = let e : v % 10 ≡ v = omega arith in wrote_as (ap (λ k. (48 + k) ∷ []) e ∙ sym (digits-one v h)) W

-- ---- one part after the other

-- of the bytes `whole` all but `rest` are put, from p on
pub record Going (p q : Pen) (whole rest : List ℕ) : Type 0 where
  pub written : List ℕ
  pub wrote : Wrote p q written
  pub is : whole ≡ written ++ rest

pub begun : {whole rest : List ℕ} (p : Pen) → whole ≡ rest → Going p p whole rest
begun p e = record { written = []; wrote = wrote_none p; is = e }

module _ {p q : Pen} {whole rest : List ℕ} (G : Going p q whole rest) where
  pub all_put : rest ≡ [] → Wrote p q whole
  all_put e = wrote_as (sym (G.is ∙ ap (λ z. G.written ++ z) e ∙ append-nil G.written)) G.wrote

  module _ (bytes after : List ℕ) (e : rest ≡ bytes ++ after) where
    pub going_room : Room p whole → Room q bytes
    going_room h =
        let l : length whole ≡ length G.written + (length bytes + length after) = ap length (G.is ∙ ap (λ z. G.written ++ z) e) ∙ simp length-append in
        omega (arith, G.wrote.put.next, G.wrote.size)

    pub going_on : {r : Pen} → Wrote q r bytes → Going p r whole after
    going_on W =
        record {
          written = G.written ++ bytes;
          wrote = wrote_then G.wrote W;
          is = G.is ∙ ap (λ z. G.written ++ z) e ∙ sym (append_assoc G.written bytes after);
        }

-- ---- numbers, a field each

pub numbers-more : (l : List ℕ) (i : ℕ) → i < length l → write_numbers (drop i l) ≡ write_number (get_or l i 0) ++ write_numbers (drop (i + 1) l)
unfolding write_numbers
numbers-more l i h = rw (drop-cons l i 0, add-one)

pub numbers-done : (l : List ℕ) (i : ℕ) → length l ≤ i → write_numbers (drop i l) ≡ []
unfolding write_numbers
numbers-done l i h = rw (drop_all i l h)

-- ---- lines by their numbers: up to n, those from i on are left

module _ (g : ℕ → List ℕ) where
  pub by-begun : (i d : ℕ) → lines_by g i d ≡ lines_by g i (i + d - i)
  by-begun i d = let e : i + d - i ≡ d = omega arith in rw e refl

  pub by_more : (i n : ℕ) → i < n → lines_by g i (n - i) ≡ g i ++ lines_by g (i + 1) (n - (i + 1))
  unfolding lines_by
  by_more i n h = let e : n - i ≡ suc (n - (i + 1)) = omega arith in rw e refl

  pub by-done : (i n : ℕ) → n ≤ i → lines_by g i (n - i) ≡ []
  unfolding lines_by
  by-done i n h = let e : n - i ≡ 0 = omega arith in rw e refl

-- lines by their numbers are the lines of a list, where each is
pub by-lines : {A : Type 0} (f : ℕ → A → List ℕ) (g : ℕ → List ℕ) (d : A) (xs : List A) (k i : ℕ) → ((j : ℕ) → j < length xs → g (i + j) ≡ f (k + j) (get_or xs j d))
    → lines_by g i (length xs) ≡ write_lines f k xs
unfolding lines_by write_lines
by-lines f g d [] k i h = refl
by-lines f g d (x ∷ xs) k i h =
    let z : g (i + 0) ≡ f (k + 0) x = h 0 (omega arith) in
    let a : i + 0 ≡ i = omega arith in
    let b : k + 0 ≡ k = omega arith in
    let first : g i ≡ f k x = rw (a, b) at z in
    ap₂ (λ p q. p ++ q) first (by-lines f g d xs (k + 1) (i + 1) (λ j l.
    let m : i + 1 + j ≡ i + suc j = omega arith in
    let n : k + 1 + j ≡ k + suc j = omega arith in
    rw (m, n) (h (suc j) (omega arith))))
