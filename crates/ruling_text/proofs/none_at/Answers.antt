-- The kind, the pair and the line's end.
use Rattle.ruling_text.proofs.Conclusions.{none_is}
use Rattle.ruling_text.proofs.none_at.Goals as goal

pub returns : goal.returns
returns c = none_is c.args.n _ c.in_ok-kind.ensures.read c.in_ok-i.ensures c.in_ok-line_end.ensures.read c.none_of.ensures
