-- The word, the pair, the reason and the line's end.
use Rattle.ruling_text.proofs.Ways.{strike-is}
use Rattle.ruling_text.proofs.strike_at.Goals as goal

pub returns : goal.returns
returns c = strike-is c.args.n _ c.in_ok-keyword.ensures.read c.in_ok-i.ensures c.in_ok-k.ensures c.in_ok-line_end.ensures.read
