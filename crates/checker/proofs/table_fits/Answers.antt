-- Three tests, each tried only where those before it pass. Assumes nothing.
use Rattle.checker.proofs.Loops.{placed-other, placed-unstable, placed-obeys, obey-ready}
use Rattle.checker.proofs.table_fits.Goals as goal

pub returns-then-ne : goal.returns-then-ne
returns-then-ne c = placed-other _ _ _ _ _ _ c.requires.0 c.if-ne.ensures

pub all_obey-requires : goal.all_obey-requires
all_obey-requires c = let s = c.args.standing.now in (c.requires.0, obey-ready _ _ s.holds.now s.bars.now _ _ c.requires.0 c.if-ne.ensures s.market.full c.in-Stable.ensures)

pub returns-in-Stable : goal.returns-in-Stable
returns-in-Stable c = let s = c.args.standing.now in placed-obeys _ _ _ _ _ _ c.requires.0 c.if-ne.ensures s.market.full c.in-Stable.ensures _ c.all_obey.ensures

pub returns-in_default : goal.returns-in_default
returns-in_default c = let s = c.args.standing.now in placed-unstable _ _ _ _ _ _ c.requires.0 c.if-ne.ensures s.market.full _ c.tested.ensures c.in_default.not-Stable
