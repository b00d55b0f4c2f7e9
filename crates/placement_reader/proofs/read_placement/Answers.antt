-- The sizes are tried, then the length, and then the text is read.
use mathlib.Core.Path.{sym, ◌∙◌}
use native.Mathlib.Omega.{arith}
use Rattle.tables.proofs.Receipts.{sizes}
use Rattle.placement_reader.proofs.Ways.{answer-short, answer-read, answer-long}
use Rattle.placement_reader.proofs.read_placement.Goals as goal

pub returns-then-not-sizes_ok : goal.returns-then-not-sizes_ok
returns-then-not-sizes_ok c =
    let a = c.args in
    answer-short a.text.now a.heads.now a.entries.now a.orders.now (sym c.sizes_ok.ensures ∙ c.if-not-sizes_ok.true)

pub returns-then-text-gt65536 : goal.returns-then-text-gt65536
returns-then-text-gt65536 c =
    let a = c.args in
    answer-long a.text.now a.heads.now a.entries.now a.orders.now (sym c.sizes_ok.ensures ∙ c.if-not-sizes_ok.false) c.if-text-gt65536.true

pub read_short-requires : goal.read_short-requires
read_short-requires c =
    let a = c.args in
    let z = sizes a.heads.now a.entries.now a.orders.now (sym c.sizes_ok.ensures ∙ c.if-not-sizes_ok.false) in
    let x = z.heads in
    let y = z.entries in
    let w = z.orders in
    omega arith

pub returns : goal.returns
returns c =
    let a = c.args in
    c.read_short.ensures ∙ answer-read a.text.now a.heads.now a.entries.now a.orders.now (sym c.sizes_ok.ensures ∙ c.if-not-sizes_ok.false)
