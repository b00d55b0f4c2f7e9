-- The parts of the text one after the other; what the cells say is the text of the placement that they hold.
use Prim.Native.Nat.{ℕ}
use mathlib.Core.Path.{ap, ◌∙◌}
use native.Mathlib.Omega.{arith}
use lib.ListN.{length, length-append}
use Rattle.std.proofs.Common.{rules}
use Rattle.fields.proofs.Puts.{put_as}
use Rattle.fields.proofs.Pens.{wrote_then, put_through}
use Rattle.placement_writer.proofs.Lines.{text-put}
use Rattle.placement_writer.proofs.Held.{ready, head-cells, order-cells}
use Rattle.placement_writer.proofs.put_text.Goals as goal

pub trainees_of-n-requires : goal.trainees_of-n-requires
trainees_of-n-requires c = let a = c.args in head-cells a.heads.now a.entries.now a.orders.now c.requires.0

pub depots_of-m-requires : goal.depots_of-m-requires
depots_of-m-requires c = let a = c.args in head-cells a.heads.now a.entries.now a.orders.now c.requires.0

pub orders_of-count-requires : goal.orders_of-count-requires
orders_of-count-requires c = let a = c.args in order-cells a.heads.now a.entries.now a.orders.now c.requires.0

pub line-requires : goal.line-requires
line-requires c =
    let a = c.args in
    let G = ready a.heads.now a.entries.now a.orders.now c.requires.0 c.trainees_of-n.ensures c.depots_of-m.ensures c.orders_of-count.ensures in
    let t = ap length (text-put a.heads.now a.entries.now a.orders.now c.trainees_of-n.result c.depots_of-m.result c.orders_of-count.result) in
    omega (arith, G.short, length-append {A = ℕ})

pub lines-requires : goal.lines-requires
lines-requires c =
    let a = c.args in
    let G = ready a.heads.now a.entries.now a.orders.now c.requires.0 c.trainees_of-n.ensures c.depots_of-m.ensures c.orders_of-count.ensures in
    let t = ap length (text-put a.heads.now a.entries.now a.orders.now c.trainees_of-n.result c.depots_of-m.result c.orders_of-count.result) in
    (omega (arith, G.few_trainees), λ i p q. (omega (arith, G.few_trainees), G.trainee i (record { low = omega arith; high = omega arith })), omega (arith, G.short, length-append {A = ℕ}))

pub lines-requires-2 : goal.lines-requires-2
lines-requires-2 c =
    let a = c.args in
    let G = ready a.heads.now a.entries.now a.orders.now c.requires.0 c.trainees_of-n.ensures c.depots_of-m.ensures c.orders_of-count.ensures in
    let t = ap length (text-put a.heads.now a.entries.now a.orders.now c.trainees_of-n.result c.depots_of-m.result c.orders_of-count.result) in (
      omega (arith, G.few_depots),
      λ j p q. (omega (arith, G.few_depots), G.few_trainees, omega (arith, G.heads), G.depot j (record { low = omega arith; high = omega arith })),
      omega (arith, G.short, length-append {A = ℕ}),
    )

pub lines-requires-3 : goal.lines-requires-3
lines-requires-3 c =
    let a = c.args in
    let G = ready a.heads.now a.entries.now a.orders.now c.requires.0 c.trainees_of-n.ensures c.depots_of-m.ensures c.orders_of-count.ensures in
    let t = ap length (text-put a.heads.now a.entries.now a.orders.now c.trainees_of-n.result c.depots_of-m.result c.orders_of-count.result) in
    (omega (arith, G.few_orders), λ k p q. (omega (arith, G.few_orders), omega (arith, G.orders)), omega (arith, G.short, length-append {A = ℕ}))

pub word-requires : goal.word-requires
word-requires c =
    let a = c.args in
    let G = ready a.heads.now a.entries.now a.orders.now c.requires.0 c.trainees_of-n.ensures c.depots_of-m.ensures c.orders_of-count.ensures in
    let t = ap length (text-put a.heads.now a.entries.now a.orders.now c.trainees_of-n.result c.depots_of-m.result c.orders_of-count.result) in
    omega (arith, G.short, length-append {A = ℕ})

pub returns : goal.returns
returns c =
    let a = c.args in
    let G = ready a.heads.now a.entries.now a.orders.now c.requires.0 c.trainees_of-n.ensures c.depots_of-m.ensures c.orders_of-count.ensures in
    let t = text-put a.heads.now a.entries.now a.orders.now c.trainees_of-n.result c.depots_of-m.result c.orders_of-count.result in
    let W = wrote_then (wrote_then (wrote_then (wrote_then c.line.ensures c.lines.ensures) c.lines-2.ensures) c.lines-3.ensures) c.word.ensures in
    λ p k. put_as (t ∙ G.text p k) (search (rules, put_through W))
