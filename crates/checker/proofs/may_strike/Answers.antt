-- A pair that isn't open stops the step; of an open one the reason decides. Assumes nothing.
use mathlib.Core.Path.{◌∙◌, sym}
use Rattle.checker.proofs.Ways.{step-shut, step-open, open-depot}
use Rattle.checker.proofs.may_strike.Goals as goal

pub reason_fits-requires : goal.reason_fits-requires
reason_fits-requires c = (rw c.from-i.ensures c.requires.0, open-depot _ _ _ _ _ c.args.standing.now.market.full (sym c.if-is_open.ensures), c.requires.1)

pub returns-then-is_open : goal.returns-then-is_open
returns-then-is_open c = c.reason_fits.ensures ∙ (rw (c.from-i.ensures, c.from-j.ensures)) ∙ step-open _ _ _ _ _ c.args.s (sym (c.if-is_open.ensures ∙ rw (c.from-i.ensures, c.from-j.ensures)))

pub returns-else-is_open : goal.returns-else-is_open
returns-else-is_open c = c.if-is_open.false ∙ step-shut _ _ _ _ _ c.args.s (sym (c.if-is_open.ensures ∙ rw (c.from-i.ensures, c.from-j.ensures)))
