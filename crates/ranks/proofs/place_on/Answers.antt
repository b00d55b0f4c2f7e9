-- The first entry that is x stands at its place; a number that no cell holds stands nowhere.
use Rattle.std.proofs.Common.{rules, ◌≡◌, ◌≤◌, length, sym, arith}
use Rattle.std.proofs.lemmas.Iterator.{IsFirst-from_position, YieldsList-from_slice}
use borrow.Author.Tests.{tests}
use Rattle.ranks.proofs.Places.{place_first, place_none}
use Rattle.ranks.proofs.place_on.Goals as goal

pub returns-in_err-x : goal.returns-in_err-x
returns-in_err-x c =
    let far : 65536 ≤ c.args.x = grind (arith, c.try_from.ensures, c.ok.ensures, c.in_err-x.was) in
    rw c.from_residual.ensures (sym (place_none c.args.list.now c.args.x (length c.args.list.now) (omega arith) (λ q k e. omega (arith, far, e, c.type_inv.list q))))

pub returns : goal.returns
returns c = place_first _ _ _ (IsFirst-from_position _ _ _ (λ y. y ≡ c.args.x) (λ y. y ≡ c.args.x → ⊥) c.position.ensures.ran (YieldsList-from_slice c.args.list.now cc) (λ y q k. search (rules, tests)) (λ y q k. search (rules, tests)))
