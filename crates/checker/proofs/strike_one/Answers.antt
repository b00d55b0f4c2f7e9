-- The place that was found open is the one that is marked. Assumes nothing.
use mathlib.Core.Path.{◌∙◌, sym}
use native.Mathlib.Omega.{arith}
use Rattle.checker.proofs.Ways.{mark-listed, mark-in-row, mark_made}
use Rattle.checker.proofs.strike_one.Goals as goal

pub mark-requires : goal.mark-requires
mark-requires c = (mark-in-row _ _ _ _ _ c.args.s (sym c.if-not-may_strike.ensures) _ _ _ c.from-i.ensures c.from.ensures c.wishes.ensures _ c.in-Some.ensures c.args.standing.now.market.full, omega (arith, c.from-i.ensures, c.requires.0.high, c.requires.1))

pub returns-in-Some : goal.returns-in-Some
returns-in-Some c = let t = c.if-not-may_strike.ensures in (t, c.mark.ensures ∙ mark_made _ _ _ _ _ c.args.s (sym t) _ _ _ c.from-i.ensures c.from.ensures c.wishes.ensures _ c.in-Some.ensures)

pub returns-in_default : goal.returns-in_default
returns-in_default c = absurd (mark-listed _ _ _ _ _ c.args.s (sym c.if-not-may_strike.ensures) _ _ _ c.from-i.ensures c.from.ensures c.wishes.ensures c.in_default.ensures)
