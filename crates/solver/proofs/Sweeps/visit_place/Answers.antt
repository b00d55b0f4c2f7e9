-- Without a reason all stays; else the strike goes to the row and to the cells.
use native.Mathlib.Omega.{arith}
use mathlib.Core.Path.{refl, ap}
use mathlib.Core.List.{List}
use Prim.Native.Nat.{ℕ}
use lib.ListN.{get_or}
use Rattle.reasons.specs.Answers.{choice_of}
use Rattle.solver.proofs.Visiting.{visit-left, room-there, visit-struck}
use Rattle.solver.proofs.Sweeps.visit_place.Goals as goal

pub put_strike-requires : goal.put_strike-requires
unfolding choice_of
put_strike-requires c = room-there _ _ _ _ _ _ _ c.args.i c.args.p c.requires.0 c.requires.1 c.requires.2 _ c.in-Some.ensures

pub overflow_add-self : goal.overflow_add-self
unfolding choice_of
overflow_add-self c =
    let r = room-there _ _ _ _ _ _ _ c.args.i c.args.p c.requires.0 c.requires.1 c.requires.2 _ c.in-Some.ensures in
    omega (arith, r, c.well_formed)

pub returns-in-Some : goal.returns-in-Some
unfolding choice_of
returns-in-Some c = record {
  same = record { standing = refl; rows = refl; cells = refl };
  came = visit-struck _ _ _ _ _ _ _ c.args.i c.args.p c.requires.0 c.requires.1 c.requires.2 _ c.in-Some.ensures _ (ap (λ (l : List ℕ). get_or l c.args.p 0) c.wishes.ensures) _ _ c.mark.ensures c.put_strike.ensures;
}

pub returns-in_default : goal.returns-in_default
unfolding choice_of
returns-in_default c = record {
  same = record { standing = refl; rows = refl; cells = refl };
  came = visit-left _ _ _ _ _ _ _ c.args.i c.args.p c.requires.0 c.requires.1 c.requires.2 c.in_default.ensures;
}
