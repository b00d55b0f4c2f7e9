-- The heads have their full size.
use native.Mathlib.Omega.{arith}
use Rattle.tables.proofs.Receipts.{sizes}
use Rattle.tables.proofs.Held.trainees.Goals as goal

pub trainees_of-requires : goal.trainees_of-requires
trainees_of-requires c = let t = c.args.self.now in omega (arith, (sizes t.heads.now t.entries.now t.orders.now t.sized).heads)
