-- The entries, and then the line's end.
use Rattle.placement_text.proofs.Ways.{counted-read}
use Rattle.placement_text.proofs.counted.Goals as goal

pub returns : goal.returns
returns c =
    counted-read c.args.k c.args.hi c.args.room.total c.args.count _ _ _ _ _ _ c.line_end.result c.if-room-size-gt4096.false
    (rw c.start.ensures at c.in_ok-entries.ensures) c.line_end.ensures.read
