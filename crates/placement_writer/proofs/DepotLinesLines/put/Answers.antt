-- The parts of the line one after the other.
use Prim.Native.Nat.{◌+◌}
use mathlib.Core.Path.{ap}
use native.Mathlib.Omega.{arith}
use mathlib.Core.List.{[], ◌∷◌, ◌++◌}
use lib.ListN.{length, get_or}
use Rattle.fields.specs.Writer.{write_number}
use Rattle.fields.proofs.Pens.{wrote_as, wrote_then, room-front, room_next}
use Rattle.placement_text.specs.Words.{word_D}
use Rattle.tables.specs.Cells.{depot_start}
use Rattle.placement_text.specs.Writer.{write_received, write_list, write_depot}
use Rattle.placement_writer.specs.Held.{number_in, list_in, depot_in}
use Rattle.placement_writer.proofs.DepotLinesLines.put.Goals as goal

pub put_posts-requires : goal.put_posts-requires
unfolding write_depot depot_in
put_posts-requires c =
    let s = c.args.self.now in
    let at = depot_start s.trainees c.args.j in
    let p = write_received (number_in (get_or s.heads.now (at + 2) 0)) in
    let l = write_list (list_in s.heads.now s.entries.now at) in
    let n = write_number c.args.j in
    let R = room-front c.args.pen.now (word_D ++ n ++ p) l (room-front c.args.pen.now (word_D ++ n ++ p ++ l) (10 ∷ []) c.requires.1) in
    let e = ap length (ap (λ z. write_received (number_in (get_or s.heads.now (z + 2) 0))) c.depot_at-cells.ensures) in
    (omega arith, omega (arith, room_next p (wrote_then c.word.ensures c.number.ensures) R))

pub returns : goal.returns
unfolding write_depot depot_in
returns c =
    let s = c.args.self.now in
    let posts = wrote_as (ap (λ z. write_received (number_in (get_or s.heads.now (z + 2) 0))) c.depot_at-cells.ensures) c.put_posts.ensures in
    let list = wrote_as (ap (λ z. write_list (list_in s.heads.now s.entries.now z)) c.depot_at-cells.ensures) c.put_list.ensures in
    wrote_then (wrote_then (wrote_then (wrote_then c.word.ensures c.number.ensures) posts) list) c.byte.ensures
