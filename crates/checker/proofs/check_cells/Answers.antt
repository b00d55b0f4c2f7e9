-- Zeros note no order and the start rows hold the empty set, so that the replay begins where the meaning does. Assumes nothing.
use native.Mathlib.Omega.{arith}
use Rattle.reasons.proofs.Starting.{start-holds}
use Rattle.checker.proofs.Placements.{its-tables, its-orders}
use Rattle.checker.proofs.Answering.{zeros-noted, checks-in}
use Rattle.checker.proofs.Replaying.{going-none}
use Rattle.checker.proofs.check_cells.Goals as goal

pub invariant_of-market : goal.invariant_of-market
invariant_of-market c = record { full = its-tables _ _ _ c.requires.0 }

pub invariant_of-its_orders : goal.invariant_of-its_orders
invariant_of-its_orders c = record { full = its-orders _ _ _ c.requires.0; few = omega (arith, c.type_inv.orders 0) }

pub note_all-requires : goal.note_all-requires
note_all-requires c = zeros-noted c.args.heads.now c.args.entries.now c.args.orders.now (its-tables _ _ _ c.requires.0)

pub check_rows-requires : goal.check_rows-requires
check_rows-requires c = let ft = its-tables _ _ _ c.requires.0 in (c.requires.1, going-none _ _ _ _ _ _ _ (omega (arith, c.start_rows.auto.rows, ft.few_trainees)) (start-holds _ _ _ c.start_rows.ensures))

pub returns : goal.returns
returns c = checks-in _ _ _ _ _ c.args.ruling _ _ _ (its-orders _ _ _ c.requires.0) c.note_all.ensures c.check_rows.ensures
