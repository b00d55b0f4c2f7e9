-- The list's head is widened by the cell of the posts.
use Rattle.placement_text.proofs.Turns.{depot-row}
use Rattle.placement_text.proofs.depot.Goals as goal

pub returns : goal.returns
returns c =
    depot-row c.args.sizes.trainees c.args.j c.args.room.total _ _ c.in_ok-posts.posts c.in_ok-list.list c.in_ok-numbered.ensures.read c.in_ok-posts.ensures
    c.in_ok-list.ensures
