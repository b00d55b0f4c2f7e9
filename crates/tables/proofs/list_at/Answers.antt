-- The two offsets differ by the length, so the part between them is the part that the cells name.
use Prim.Native.Nat.{◌+◌, ◌-◌}
use mathlib.Core.Path.{◌≡◌, ap₂}
use native.Mathlib.Omega.{arith}
use lib.ListN.{get_or, take, drop}
use Rattle.tables.specs.Cells.{part}
use Rattle.tables.proofs.list_at.Goals as goal

pub returns : goal.returns
unfolding part
returns c =
    let a = c.args in
    let h = a.heads.now in
    let z : c.start_of-start.result + c.cell.result - c.start_of-start.result ≡ get_or h (a.at + 1) 0 = omega arith in
    ap₂ (λ v s. take v (drop s a.entries.now)) z c.start_of-start.ensures
