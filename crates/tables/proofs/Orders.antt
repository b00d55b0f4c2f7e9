-- What the code's tests of a kind say of the cell that stands for it. Assumes nothing.
use Prim.Native.Nat.{ℕ}
use mathlib.Core.Path.{◌≡◌, sym, ap}
use mathlib.Core.Bool.{Bool, true, false, not, false≢true}
use native.Mathlib.Omega.{arith}
use lib.Dec.{leb}
use borrow.Author.Tests.{lt-leb}
use Rattle.std.specs.Prelude.{Option, Some, None, is_some}
use Rattle.std.specs.Option.{option_eq}
use Rattle.tables.specs.Kinds.{KindGives}
use Rattle.tables.specs.declared.Kind.{Kind}
use Rattle.tables.specs.declared.Kind.TheVariants.{Held, Barred}
use Rattle.tables.specs.contracts.KindPartialEq.TheImpl.{eq-value}

pub kind-tests : (v : ℕ) (r : Option Kind) → KindGives v r → is_some r ≡ leb v 1
kind-tests v (Some Held) k = rw (← k)
kind-tests v (Some Barred) k = rw (← k)
kind-tests v None k = sym (lt-leb v 1 k)

-- the kind is held
pub is-held : (v : ℕ) (r : Option Kind) → KindGives v r → true ≡ option_eq eq-value.it r (Some Held) → v ≡ 0
is-held v (Some Held) k e = sym k
is-held v (Some Barred) k e = absurd (false≢true (sym e))
is-held v None k e = absurd (false≢true (sym e))

pub not-held : (v : ℕ) (r : Option Kind) → KindGives v r → false ≡ option_eq eq-value.it r (Some Held) → v ≡ 0 → ⊥
not-held v (Some Held) k e z = false≢true e
not-held v (Some Barred) k e z = omega arith
not-held v None k e z = omega arith

-- the same where the code asks whether it isn't
pub turned : (b c : Bool) → c ≡ not b → not c ≡ b
turned true c e = ap not e
turned false c e = ap not e
