-- What is left of the series is decoded from where the walk stands, so the end of the whole is the end of the rest.
use Prim.Native.Nat.{◌+◌, ◌*◌, ◌-◌}
use native.Mathlib.Omega.{arith}
use Rattle.meaning.specs.Placement.{size}
use Rattle.tables.specs.Decode.{trainee_from}
use Rattle.tables.proofs.Walk.{walk-none, walk-on, walk-done}
use Rattle.tables.proofs.Side.end.Goals as goal

pub returns-in_err-s : goal.returns-in_err-s
returns-in_err-s c =
    let a = c.args in
    let l = c.loop-k in
    rw c.from_residual.ensures
    (walk-none (trainee_from a.self.named) size a.self.wide a.heads.now a.entries.now _ (a.self.first + a.self.wide * l.k) l.s (a.self.count - l.k) l.invariant (a.self.count - (l.k + 1)) (omega arith) c.in_err-s.ensures)

pub loop-k-preserved : goal.loop-k-preserved
loop-k-preserved c =
    let a = c.args in
    let l = c.loop-k in
    walk-on (trainee_from a.self.named) size a.self.wide a.heads.now a.entries.now _ (a.self.first + a.self.wide * l.k) l.s (a.self.count - l.k) l.invariant (a.self.first + a.self.wide * (l.k + 1)) (a.self.count - (l.k + 1)) _ (omega arith) (omega arith) c.in_ok-s.ensures

pub returns : goal.returns
returns c =
    let a = c.args in
    let l = c.loop-k in
    walk-done (trainee_from a.self.named) size a.self.wide a.heads.now a.entries.now _ (a.self.first + a.self.wide * l.k) l.s (a.self.count - l.k) l.invariant (omega arith)
