-- No depot passed so far has room for a trainee who would come.
use Prim.Native.Nat.{◌-◌, ◌+◌}
use mathlib.Core.Path.{◌≡◌}
use Rattle.meaning.specs.Endings.{room_from}
use Rattle.ranks.specs.View.{m_of, market_of}
use Rattle.solver.specs.Ends.{struck_in, left_by}
use Rattle.solver.proofs.Left.first_room.Given as goal

abbrev pub invariant-loop-j : goal.invariant-loop-j
invariant-loop-j l = let h = l.self.orders.market.heads.now in let e = l.self.orders.market.entries.now in let rows = l.self.rows.now in
    room_from (market_of h e) (struck_in h e rows) (left_by h e rows) (m_of h) 1 ≡ room_from (market_of h e) (struck_in h e rows) (left_by h e rows) (m_of h + 1 - l.j) l.j
