-- The length or the mark, and then the part of the entries.
use Prim.Native.Nat.{◌+◌, ◌<◌}
use mathlib.Core.Path.{ap, ◌∙◌, subst}
use native.Mathlib.Omega.{arith}
use lib.ListN.{get_or}
use Rattle.tables.specs.Cells.{CellGives}
use Rattle.fields.proofs.Pens.{wrote_as, wrote_then, room_next}
use Rattle.placement_text.specs.Writer.{write_received}
use Rattle.placement_writer.specs.Held.{received_in}
use Rattle.placement_writer.proofs.Lines.{cell-small, list-missing, list-given, list-front}
use Rattle.placement_writer.proofs.put_list.Goals as goal

pub length_of-length-requires : goal.length_of-length-requires
length_of-length-requires c = c.requires.0.cells

pub put_received-requires : goal.put_received-requires
put_received-requires c =
    let a = c.args in
    let small : get_or a.heads.now (a.cells + 1) 0 < 65536 = omega (arith, c.type_inv.heads (a.cells + 1)) in
    (cell-small _ _ c.length_of-length.ensures small, omega (arith, list-front a.heads.now a.entries.now a.cells c.requires.0 _ c.length_of-length.ensures))

pub list_at-list-requires : goal.list_at-list-requires
list_at-list-requires c =
    let k = subst (CellGives (get_or c.args.heads.now (c.args.cells + 1) 0)) c.in-Some.is c.length_of-length.ensures in
    (c.requires.0.cells, c.requires.0.fits k.1)

pub numbers-requires : goal.numbers-requires
numbers-requires c =
    let a = c.args in
    let k = subst (CellGives (get_or a.heads.now (a.cells + 1) 0)) c.in-Some.is c.length_of-length.ensures in
    let first = wrote_as (ap (λ v. write_received (received_in v)) c.in-Some.is) c.put_received.ensures in
    rw c.list_at-list.ensures (room_next _ first (rw (← list-given a.heads.now a.entries.now a.cells c.requires.0 _ k.0 k.1) at c.requires.1))

pub returns-in-Some : goal.returns-in-Some
returns-in-Some c =
    let a = c.args in
    let k = subst (CellGives (get_or a.heads.now (a.cells + 1) 0)) c.in-Some.is c.length_of-length.ensures in
    let first = wrote_as (ap (λ v. write_received (received_in v)) c.in-Some.is) c.put_received.ensures in
    wrote_as (list-given a.heads.now a.entries.now a.cells c.requires.0 _ k.0 k.1) (wrote_then first (rw c.list_at-list.ensures at c.numbers.ensures))

pub returns-in_default : goal.returns-in_default
returns-in_default c =
    let a = c.args in
    let k = subst (CellGives (get_or a.heads.now (a.cells + 1) 0)) c.in_default.is c.length_of-length.ensures in
    wrote_as (ap (λ v. write_received (received_in v)) c.in_default.is ∙ list-missing a.heads.now a.entries.now a.cells k) c.put_received.ensures
