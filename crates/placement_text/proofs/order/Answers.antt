-- The word decides between the end of the text and one more pair.
use Prim.Native.Nat.{◌-◌}
use mathlib.Core.Path.{◌≡◌, subst, ◌∙◌}
use native.Mathlib.Omega.{arith}
use Rattle.std.proofs.Common.{rules}
use Rattle.std.proofs.lemmas.Result.{err_from_is_err_and}
use Rattle.std.specs.Prelude.{Ok, Err, Some, MatchResult}
use Rattle.fields.specs.Leaves.{wrong_on}
use Rattle.placement_text.specs.Code.{Opened, opens}
use Rattle.placement_text.proofs.Below.{orders-end, pair-line}
use Rattle.placement_text.proofs.order.Goals as goal

pub returns-in_err-finish : goal.returns-in_err-finish
returns-in_err-finish c =
    let a = c.args in
    let p = err_from_is_err_and c.from_residual-in_err-finish.result c.from_residual-in_err-finish.ensures.1 in
    let O = subst (λ v. Opened a.text.now.rest.now (opens v) c.opening_of.new.text.rest.now) c.in_default.is c.in_ok-kind.ensures in
    rw (p.1, p.2) (λ os. orders-end a.sizes.trainees a.sizes.depots a.l _ (1024 - a.c) os O ∙ c.in_err-finish.ensures os)

pub returns : goal.returns
returns c =
    let a = c.args in
    let O = subst (λ v. Opened a.text.now.rest.now (opens v) c.opening_of.new.text.rest.now) c.in-Order.is c.in_ok-kind.ensures in
    let m : MatchResult c.order_fields.result (λ v. c.map_err.result ≡ Ok (Some v)) (λ w. c.map_err.result ≡ Err (wrong_on w a.l)) = search rules in
    pair-line a.sizes.trainees a.sizes.depots a.l a.c _ _ _ c.in-Order.kind c.order_fields.result c.map_err.result (omega (arith, c.if-c-eq1024.false)) O m c.order_fields.ensures
