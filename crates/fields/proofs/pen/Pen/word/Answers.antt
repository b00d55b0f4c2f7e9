-- A copy of the word into its part of the output.
use Prim.Native.Nat.{◌+◌, ◌-◌}
use mathlib.Core.Path.{refl}
use native.Mathlib.Omega.{arith}
use lib.ListN.{length}
use Rattle.fields.proofs.Puts.{put-length, put_copied}
use Rattle.fields.proofs.pen.Pen.word.Goals as goal

pub returns : goal.returns
returns c =
    let p = c.args.self.now in
    let P = put_copied p.out.now c.args.w.now p.at (p.at + length c.args.w.now - p.at) c.copy_from_slice.ensures.after (omega arith) c.requires in
    record { same = refl; size = put-length P; put = P }
