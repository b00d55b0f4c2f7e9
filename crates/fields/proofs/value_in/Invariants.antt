-- The invariant: what is left, read after the value so far, has the value of the whole; the value is below 1 and as many zeros as digits were passed.
use Prim.Native.Nat.{◌<◌}
use mathlib.Core.Path.{◌≡◌}
use lib.ListN.{drop}
use Rattle.fields.specs.Number.{value}
use Rattle.fields.proofs.Digits.{ten_to}
use Rattle.fields.proofs.value_in.Given as goal

abbrev pub invariant-loop-d : goal.invariant-loop-d
invariant-loop-d l = (l.v < ten_to l.d-index) × (value 0 l.word ≡ value l.v (drop l.d-index l.word))
