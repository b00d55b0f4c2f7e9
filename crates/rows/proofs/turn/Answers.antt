-- The complement has exactly the other marks. Assumes nothing.
use borrow.Author.Rules.{rules}
use Rattle.rows.proofs.Coded.{complement-turned}
use Rattle.rows.proofs.turn.Goals as goal

pub returns : goal.returns
returns c = complement-turned c.args.row (search rules)
