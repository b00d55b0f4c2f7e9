-- Past the list's end nothing stands, so that where none is left the cell is 0.
use mathlib.Core.Path.{ap, ◌∙◌}
use Rattle.std.specs.Option.{unwrap_or}
use Rattle.reasons.proofs.Lefts.{left_there}
use Rattle.reasons.proofs.Rows.left_cell.Goals as goal

pub returns : goal.returns
returns c =
    c.unwrap_or.ensures ∙ ap (λ o. unwrap_or o 0) c.copied.ensures ∙ left_there _ _ _ c.args.i _ _ c.wishes.ensures c.first_left-p.ensures c.get.result c.get.ensures.lookup.0 c.get.ensures.lookup.1
