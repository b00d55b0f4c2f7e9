-- The placement's tables first, then the table, then the record.
use mathlib.Core.Path.{refl, sym, ◌∙◌}
use borrow.Author.Tests.{lt-leb, le-leb}
use Rattle.std.proofs.lemmas.Result.{err_from_is_err_and}
use Rattle.tables.proofs.Same.{same-sized}
use Rattle.rulings.proofs.Sizes.{part-short, table-short, record-long}
use Rattle.rulings.proofs.lent_with_room.Goals as goal
use Rattle.rulings.proofs.lent_with_room.Goals.{else-cells-ge256-via-then-cells-ge256+else-room-ge4096, else-cells-ge256-via-else-cells-ge256}

pub returns-in_err-lent : goal.returns-in_err-lent
returns-in_err-lent c =
    let p = err_from_is_err_and c.from_residual.result c.from_residual.ensures.1 in
    rw (p.1, p.2) (c.in_err-lent.ensures.0, sym (part-short _ _ _ _ _ c.in_err-lent.ensures.1))

pub returns-then-room-ge4096 : goal.returns-then-room-ge4096
returns-then-room-ge4096 c =
    let s = c.in_ok-lent.ensures in
    (s, sym (record-long _ _ _ _ _ (same-sized s c.in_ok-lent.lent.sized) (le-leb _ _ c.if-cells-ge256.true)) ∙ le-leb _ _ c.if-room-ge4096.true)

pub returns-else-cells-ge256 : goal.returns-else-cells-ge256
returns-else-cells-ge256 c =
    let a = c.args in
    let k = same-sized c.in_ok-lent.ensures c.in_ok-lent.lent.sized in (
      refl,
      elim c.else-cells-ge256.branch [
        | else-cells-ge256-via-then-cells-ge256+else-room-ge4096 w ↦ sym (record-long _ _ _ a.cells a.room k (le-leb _ _ w.if-cells-ge256.true)) ∙ lt-leb _ _ w.if-room-ge4096.false
        | else-cells-ge256-via-else-cells-ge256 w ↦ sym (table-short _ _ _ a.cells a.room k (lt-leb _ _ w.if-cells-ge256.false))
      ],
    )
