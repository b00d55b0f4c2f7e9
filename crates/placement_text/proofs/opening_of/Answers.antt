-- The word is looked for once, and compared with each of the three in turn.
use mathlib.Core.Path.{◌≡◌, sym, ap, ◌∙◌}
use mathlib.Core.Bool.{Bool}
use mathlib.Core.List.{List}
use Prim.Native.Nat.{ℕ}
use lib.Pointwise.{pointwise}
use Rattle.std.specs.Prelude.{nat_eq}
use Rattle.fields.specs.Bytes.{same, word_end}
use Rattle.fields.proofs.Ways.{same_pointwise}
use Rattle.placement_text.specs.Words.{word_F, word_X}
use Rattle.placement_text.proofs.Below.{opens-held, opens-barred, opens-end, opens-other, orders-other}
use Rattle.placement_text.proofs.opening_of.Goals as goal

compared : (w k : List ℕ) {s : List ℕ} {r b : Bool} → s ≡ k → r ≡ pointwise nat_eq w s → r ≡ b → same w k ≡ b
compared w k e f g = sym (same_pointwise w k) ∙ ap (pointwise nat_eq w) (sym e) ∙ sym f ∙ g

pub returns-then-eq : goal.returns-then-eq
returns-then-eq c = opens-held c.word-word.ensures (compared _ word_F c.as_slice.ensures c.eq.ensures c.if-eq.true)

pub returns-then-eq-2 : goal.returns-then-eq-2
returns-then-eq-2 c =
    opens-barred c.word-word.ensures (compared _ word_F c.as_slice.ensures c.eq.ensures c.if-eq.false)
    (compared _ word_X c.as_slice-2.ensures c.eq-2.ensures c.if-eq-2.true)

pub returns-then-eq-3 : goal.returns-then-eq-3
returns-then-eq-3 c =
    opens-end c.word-word.ensures (compared _ word_F c.as_slice.ensures c.eq.ensures c.if-eq.false)
    (compared _ word_X c.as_slice-2.ensures c.eq-2.ensures c.if-eq-2.false)
    (compared _ word_end c.as_slice-3.ensures c.eq-3.ensures c.if-eq-3.true)

pub returns : goal.returns
returns c =
    let o =
    opens-other c.word-word.ensures (compared _ word_F c.as_slice.ensures c.eq.ensures c.if-eq.false)
    (compared _ word_X c.as_slice-2.ensures c.eq-2.ensures c.if-eq-2.false)
    (compared _ word_end c.as_slice-3.ensures c.eq-3.ensures c.if-eq-3.false) in
    λ n m k os. orders-other n m c.args.l _ k os o
