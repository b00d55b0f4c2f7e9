-- The first line, both sides and the orders, each read where the one before it stopped.
use Prim.Native.Nat.{◌+◌}
use mathlib.Core.Path.{◌≡◌, subst}
use native.Mathlib.Omega.{arith}
use Rattle.std.proofs.Common.{rules}
use Rattle.std.proofs.lemmas.Result.{err_from_is_err_and}
use Rattle.std.specs.Prelude.{Ok, Err, MatchResult}
use Rattle.fields.specs.Leaves.{wrong_on}
use Rattle.placement_reader.proofs.Parts.{HeadTaken, head-taken, at-orders, whole-text, pairs-few}
use Rattle.placement_reader.proofs.whole.Goals as goal

pub returns-in_err-sizes : goal.returns-in_err-sizes
returns-in_err-sizes c =
    let s = c.args.text.now in
    let p = err_from_is_err_and c.from_residual.result c.from_residual.ensures.1 in
    let m : MatchResult c.head.result (λ v. c.map_err.result ≡ Ok v) (λ w. c.map_err.result ≡ Err (wrong_on w 1)) = search rules in
    let H = subst (HeadTaken s c.head.new.text.rest.now) c.in_err-sizes.was (head-taken s _ c.head.result c.map_err.result m c.head.ensures.read) in
    rw (p.1, p.2) (H c.requires.0)

pub returns-in_err-count : goal.returns-in_err-count
returns-in_err-count c =
    let s = c.args.text.now in
    let p = err_from_is_err_and c.from_residual-in_err-count.result c.from_residual-in_err-count.ensures.1 in
    let m : MatchResult c.head.result (λ v. c.map_err.result ≡ Ok v) (λ w. c.map_err.result ≡ Err (wrong_on w 1)) = search rules in
    let H = subst (HeadTaken s c.head.new.text.rest.now) c.in_ok-sizes.was (head-taken s _ c.head.result c.map_err.result m c.head.ensures.read) in
    rw (p.1, p.2) (at-orders s c.requires.0 H c.in_ok-entries.ensures c.in_err-count.ensures.read)

pub overflow_mul-result-2 : goal.overflow_mul-result-2
overflow_mul-result-2 c =
    let z = c.in_ok-sizes.sizes in
    omega (arith, pairs-few z.trainees z.depots (z.trainees + z.depots + 2) _ c.in_ok-count.ensures.read)

pub overflow_add-result-3 : goal.overflow_add-result-3
overflow_add-result-3 c =
    let z = c.in_ok-sizes.sizes in
    omega (arith, pairs-few z.trainees z.depots (z.trainees + z.depots + 2) _ c.in_ok-count.ensures.read)

pub returns : goal.returns
returns c =
    let s = c.args.text.now in
    let m : MatchResult c.head.result (λ v. c.map_err.result ≡ Ok v) (λ w. c.map_err.result ≡ Err (wrong_on w 1)) = search rules in
    let H = subst (HeadTaken s c.head.new.text.rest.now) c.in_ok-sizes.was (head-taken s _ c.head.result c.map_err.result m c.head.ensures.read) in
    whole-text s c.requires.0 H c.in_ok-entries.ensures c.in_ok-count.ensures.read
