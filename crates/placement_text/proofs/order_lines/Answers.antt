-- The invariant: what is left, read after the pairs so far, is the reading of all lines; their cells stand behind the first.
use Prim.Native.Nat.{◌+◌}
use mathlib.Core.Path.{◌≡◌, refl, subst}
use denote.Enum.Declared.{tag_of}
use Rattle.std.specs.Prelude.{Ok}
use Rattle.tables.specs.contracts.Kind.{the_type}
use Rattle.tables.specs.Kinds.{cell_of}
use Rattle.tables.specs.declared.Kind.{Kind}
use Rattle.tables.specs.declared.Kind.TheVariants.{Held, Barred}
use Rattle.placement_text.specs.Code.{OrderRead}
use Rattle.placement_text.proofs.Below.{pairs_start, pairs-done, pairs-on}
use Rattle.placement_text.proofs.order_lines.Goals as goal

kind-cell : (k : Kind) → tag_of the_type k ≡ cell_of k
kind-cell Held = refl
kind-cell Barred = refl

pub loop-pair-init : goal.loop-pair-init
loop-pair-init c = pairs_start c.args.sizes.trainees c.args.sizes.depots c.args.l c.args.text.now.rest.now c.args.o.now

pub loop-pair-preserved : goal.loop-pair-preserved
loop-pair-preserved c =
    let a = c.args in
    let l = c.loop-pair in
    let M = subst (λ p. OrderRead a.sizes.trainees a.sizes.depots (a.l + l.c) l.c l.after.rest.now c.order.new.text.rest.now (Ok p)) c.in-Some.is c.in_ok-pair.ensures in
    rw (kind-cell c.in-Some.pair.kind) (pairs-on l.invariant M)

pub returns-clause-read : goal.returns-clause-read
returns-clause-read c =
    let a = c.args in
    let l = c.loop-pair in
    let E = subst (λ p. OrderRead a.sizes.trainees a.sizes.depots (a.l + l.c) l.c l.after.rest.now c.order.new.text.rest.now (Ok p)) c.in_default.is c.in_ok-pair.ensures in
    pairs-done l.invariant E
