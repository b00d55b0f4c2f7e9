-- The tables hold a placement, so the heads tell its first line.
use Rattle.tables.proofs.Lines.{held-room, of-placement}
use Rattle.tables.proofs.Held.missing_line.Goals as goal

pub first_missing_line-requires : goal.first_missing_line-requires
first_missing_line-requires c = let t = c.args.self.now in held-room t.heads.now t.entries.now t.orders.now t.held

pub returns : goal.returns
returns c = let t = c.args.self.now in λ p k. of-placement t.heads.now t.entries.now t.orders.now p k _ c.first_missing_line.ensures
