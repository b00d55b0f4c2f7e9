-- The cells before, the four numbers and the cells behind are `cells_with`. Assumes nothing.
use mathlib.Core.Path.{◌≡◌, ◌∙◌, ap, ap₂}
use mathlib.Core.List.{◌++◌}
use lib.ListN.{take, drop}
use lib.Seq.{drop-drop}
use native.Mathlib.Omega.{arith}
use Prim.Native.Nat.{◌+◌, ◌*◌, ◌-◌}
use Rattle.strikes.specs.Cells.{cells_with}
use Rattle.strikes.proofs.put_strike.Goals as goal

pub returns : goal.returns
unfolding cells_with
returns c =
    let a = c.args in
    let four : 4 * a.k + 4 - 4 * a.k ≡ 4 = omega arith in
    ap₂ (λ own behind. take (4 * a.k) a.cells.now ++ (own ++ behind)) (c.copy_from_slice.ensures.after ∙ c.from.ensures)
    (ap (λ n. drop n (drop (4 * a.k) a.cells.now)) four ∙ drop-drop 4 (4 * a.k) a.cells.now)
