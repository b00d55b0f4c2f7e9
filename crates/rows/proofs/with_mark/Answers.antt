-- Or with the shifted one marks that place. Assumes nothing.
use borrow.Author.Rules.{rules}
use Rattle.rows.proofs.Coded.{or-shifted-marks}
use Rattle.rows.proofs.with_mark.Goals as goal

pub returns : goal.returns
returns c = or-shifted-marks c.args.row c.args.p (search rules) c.requires
