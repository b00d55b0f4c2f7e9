-- The numbers that the code computes are the rows that it promises. Assumes nothing.
use Prim.Native.Nat.{ℕ, ◌-◌, ◌*◌, ◌%◌, ◌^◌, ◌<◌, ◌≤◌}
use mathlib.Core.Path.{◌≡◌, ap, sym, ◌∙◌}
use mathlib.Core.Bool.{not}
use native.Mathlib.Nat.{one-mul}
use native.Mathlib.Omega.{arith}
use borrow.Author.Tests.{lt-leb}
use lib.Dec.{leb, lit<}
use lib.Pow.{pow-lt, pow_pos, shl_exact}
use lib.Bits.{bit_or, or_lt}
use mir.Syntax.{w64}
use mir.Val.{Fits}
use Rattle.rows.specs.Marks.{marks, is_marked, row_of, with_mark, past_end, turned}
use Rattle.rows.proofs.Digits.{lowest-or, lowest-from, lowest-complement}
use Rattle.rows.proofs.Marking.{row-of-marks, row-where-only}

-- 1 shifted to place p
pub shifted : (p : ℕ) → p < 64 → 1 * 2 ^ p % 2 ^ 64 ≡ 2 ^ p
shifted p h = shl_exact 1 p 64 (lit< tt) (omega arith) ∙ one-mul (2 ^ p)

pub or-shifted-marks : (row p : ℕ) → Fits w64 row → p < 64 → bit_or row (1 * 2 ^ p % 2 ^ 64) ≡ with_mark row p
unfolding with_mark marks
or-shifted-marks row p f h =
    let fit : Fits w64 (bit_or row (2 ^ p)) = record { fits = or_lt 64 row (2 ^ p) f.fits (pow-lt h) } in
    rw (shifted p h) (sym (row-of-marks (bit_or row (2 ^ p)) fit) ∙ ap row_of (lowest-or 64 p row h))

-- all ones but those below len
pub complement-past-end : (len : ℕ) → len < 64 → 2 ^ 64 - 1 - (1 * 2 ^ len % 2 ^ 64 - 1) ≡ past_end len
unfolding past_end marks
complement-past-end len h =
    let o : 0 < 2 ^ len = pow_pos len in
    let b : 2 ^ len < 2 ^ 64 = pow-lt h in
    let e : 2 ^ 64 - 1 - (1 * 2 ^ len % 2 ^ 64 - 1) ≡ 2 ^ 64 - 2 ^ len = rw (shifted len h) (omega arith) in
    e ∙ row-where-only (leb len) (2 ^ 64 - 2 ^ len) (record { fits = omega arith }) (λ p l. lowest-from 64 len p (omega arith) l)

-- where the list fills the row, nothing is past its end
pub zero-past-end : (len : ℕ) → 64 ≤ len → 0 ≡ past_end len
unfolding past_end marks
zero-past-end len h =
    row-where-only (leb len) 0 (record { fits = lit< tt }) (λ p l. lowest-from 64 64 p (omega arith) l ∙ lt-leb 64 p l ∙ sym (lt-leb len p (omega arith)))

-- the complement has the other marks
pub complement-turned : (row : ℕ) → Fits w64 row → 2 ^ 64 - 1 - row ≡ turned row
unfolding turned marks
complement-turned row f = row-where-only (λ p. not (is_marked row p)) (2 ^ 64 - 1 - row) (record { fits = omega (arith, f.fits) }) (λ p l. lowest-complement 64 row p f.fits l)
