-- What is left of the series is decoded from where the walk stands, so the end of the whole is the end of the rest.
use Prim.Native.Nat.{◌+◌, ◌*◌, ◌-◌}
use lib.ListN.{drop}
use Rattle.meaning.specs.Lists.{weigh}
use Rattle.meaning.specs.Placement.{size}
use Rattle.tables.specs.Decode.{trainee_from, series_from}
use Rattle.tables.specs.Walk.{end_of}
use Rattle.tables.proofs.Walk.{Left}
use Rattle.tables.proofs.Side.end.Given as goal

abbrev pub invariant-loop-k : goal.invariant-loop-k
invariant-loop-k l =
    Left (trainee_from l.self.named) size l.self.wide l.heads l.entries (end_of (weigh size) l.start (series_from (trainee_from l.self.named) size l.self.wide l.self.count l.start (drop l.self.first l.heads) (drop l.start l.entries))) (l.self.first + l.self.wide * l.k) l.s (l.self.count - l.k)
