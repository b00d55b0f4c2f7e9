-- One's own depot stands on the list, so what is above it ends before its place; where there is none, all of it is.
use Prim.Native.Nat.{ℕ}
use mathlib.Core.Path.{sym, ap}
use native.Mathlib.Omega.{arith}
use lib.ListN.{take}
use Rattle.std.proofs.lemmas.List.{length-take-le}
use Rattle.ranks.proofs.Places.{place-le}
use Rattle.stability.proofs.Blocking.{above-found, above-whole}
use Rattle.stability.proofs.above_own.Goals as goal

pub slice_bounds-result-end : goal.slice_bounds-result-end
slice_bounds-result-end c = let w = c.args.wishes.now in sym (length-take-le c.in-Some.p w (omega (arith, c.in-Some.ensures, place-le w c.args.x)))

pub returns-in-Some : goal.returns-in-Some
returns-in-Some c = ap (λ (k : ℕ). take k c.args.wishes.now) (above-found _ _ c.requires _ c.in-Some.ensures)

pub returns-in-None : goal.returns-in-None
returns-in-None c = above-whole _ _ c.requires c.in-None.ensures
