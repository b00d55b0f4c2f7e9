-- The tables have their full sizes.
use Rattle.tables.proofs.Receipts.{sizes}
use Rattle.tables.proofs.Held.new.Goals as goal

pub used_cells_ok-requires : goal.used_cells_ok-requires
used_cells_ok-requires c = let t = c.args.lent in let s = sizes t.heads.now t.entries.now t.orders.now t.sized in (s.heads, s.orders)
