-- A list that was not received has no entries.
use mathlib.Core.Path.{ap, ◌∙◌}
use Rattle.fields.specs.Reader.{got}
use Rattle.placement_text.specs.Code.{told}
use Rattle.placement_text.proofs.Ways.{list-missing, missing-row}
use Rattle.placement_text.proofs.list.Goals as goal

pub returns-in_default : goal.returns-in_default
returns-in_default c =
    let e = c.in_ok-count.ensures ∙ ap (λ v. got (told v) c.received.new.text.rest.now) c.in_default.is in
    missing-row _ _ c.args.t.now (list-missing c.args.k c.args.hi c.args.room.total _ e c.in_ok-line_end.ensures.read)
