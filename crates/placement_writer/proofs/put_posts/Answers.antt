-- What the cell gives is what it says.
use Prim.Native.Nat.{◌+◌, ◌<◌}
use mathlib.Core.Path.{sym, ap}
use native.Mathlib.Omega.{arith}
use lib.ListN.{get_or}
use Rattle.fields.proofs.Pens.{wrote_as}
use Rattle.placement_text.specs.Writer.{write_received}
use Rattle.placement_writer.proofs.Lines.{cell-says, cell-small}
use Rattle.placement_writer.proofs.put_posts.Goals as goal

pub put_received-requires : goal.put_received-requires
put_received-requires c =
    let small : get_or c.args.heads.now (c.args.cells + 2) 0 < 65536 = omega (arith, c.type_inv.heads (c.args.cells + 2)) in
    (cell-small _ _ c.posts_of.ensures small, rw (cell-says _ _ c.posts_of.ensures) at c.requires.1)

pub returns : goal.returns
returns c = wrote_as (ap write_received (sym (cell-says _ _ c.posts_of.ensures))) c.put_received.ensures
