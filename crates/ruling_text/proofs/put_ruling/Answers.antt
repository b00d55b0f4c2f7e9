-- The parts of the text, one after the other, fit because the whole does.
use mathlib.Core.Path.{ap}
use native.Mathlib.Omega.{arith}
use lib.ListN.{length}
use Rattle.std.proofs.Common.{rules}
use Rattle.fields.proofs.Pens.{wrote_as, wrote_then, put_through}
use Rattle.ruling_text.specs.Writer.{write_head}
use Rattle.ruling_text.specs.Cells.{ruling_in}
use Rattle.ruling_text.proofs.Quads.{held-lines, held-room}
use Rattle.ruling_text.proofs.Parts.{text-parts, parts-fit}
use Rattle.ruling_text.proofs.put_ruling.Goals as goal

pub line-requires : goal.line-requires
unfolding write_head
line-requires c =
    let r = c.args.ruling in
    omega (arith, parts-fit r.trainees r.strikes r.ending c.args.table.now c.args.cells.now c.requires.0, c.requires.1)

pub lines-requires : goal.lines-requires
unfolding write_head
lines-requires c =
    let r = c.args.ruling in
    let e = ap length (held-lines c.args.cells.now r.strikes c.requires.0.strikes) in
    let room = held-room c.args.cells.now r.strikes c.requires.0.strikes in
    (omega (arith, c.requires.0.legal.few_strikes), λ i p q. omega arith, omega (arith, parts-fit r.trainees r.strikes r.ending c.args.table.now c.args.cells.now c.requires.0, c.requires.1))

pub put_outcome-requires : goal.put_outcome-requires
unfolding write_head ruling_in
put_outcome-requires c =
    let r = c.args.ruling in
    let e = ap length (held-lines c.args.cells.now r.strikes c.requires.0.strikes) in (
      c.requires.0.legal.n,
      c.requires.0.legal.outcome,
      omega (arith, parts-fit r.trainees r.strikes r.ending c.args.table.now c.args.cells.now c.requires.0, c.requires.1),
    )

pub word-requires : goal.word-requires
unfolding write_head
word-requires c =
    let r = c.args.ruling in
    let e = ap length (held-lines c.args.cells.now r.strikes c.requires.0.strikes) in
    omega (arith, parts-fit r.trainees r.strikes r.ending c.args.table.now c.args.cells.now c.requires.0, c.requires.1)

pub returns : goal.returns
unfolding write_head
returns c =
    let r = c.args.ruling in
    let W = wrote_then (wrote_then (wrote_then c.line.ensures (wrote_as (held-lines c.args.cells.now r.strikes c.requires.0.strikes) c.lines.ensures)) c.put_outcome.ensures) c.word.ensures in
    search (rules, put_through (wrote_as (text-parts r.trainees r.strikes r.ending c.args.table.now c.args.cells.now) W))
