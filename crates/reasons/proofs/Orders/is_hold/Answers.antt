-- The kind is held exactly where its cell is 0.
use Prim.Native.Nat.{ℕ}
use mathlib.Core.Path.{◌≡◌, sym, ap, ◌∙◌}
use mathlib.Core.Bool.{Bool, true, false}
use lib.Dec.{eqb}
use lib.ListN.{get_or}
use borrow.Author.Tests.{eq-eqb, ne_eqb}
use Rattle.std.specs.Prelude.{Option, Some}
use Rattle.std.specs.Option.{option_eq}
use Rattle.tables.specs.Kinds.{KindGives}
use Rattle.tables.specs.declared.Kind.{Kind}
use Rattle.tables.specs.declared.Kind.TheVariants.{Held}
use Rattle.tables.specs.contracts.KindPartialEq.TheImpl.{eq-value}
use Rattle.tables.proofs.Orders.{is-held, not-held}
use Rattle.reasons.proofs.Orders.is_hold.Goals as goal

held-test : (v : ℕ) (r : Option Kind) → KindGives v r → (b : Bool) → b ≡ option_eq eq-value.it r (Some Held) → b ≡ eqb v 0
held-test v r k true e = sym (eq-eqb v 0 (is-held v r k e))
held-test v r k false e = sym (ne_eqb v 0 (not-held v r k e))

pub returns : goal.returns
returns c = held-test _ _ c.kind_at.ensures _ c.eq.ensures ∙ ap (λ a. eqb (get_or c.args.self.now.cells.now a 0) 0) c.order_at.ensures
