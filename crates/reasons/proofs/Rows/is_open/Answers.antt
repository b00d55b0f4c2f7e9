-- The place of the depot is the mark to look at; who isn't on the list is not open.
use Rattle.reasons.proofs.Lefts.{not_listed, listed-in-row, listed-open}
use Rattle.reasons.proofs.Rows.is_open.Goals as goal

pub marked-requires : goal.marked-requires
marked-requires c = listed-in-row _ _ c.args.self.now.marks.now _ _ _ c.wishes.ensures _ c.in-Some.ensures c.args.self.now.market.full

pub returns-in-Some : goal.returns-in-Some
returns-in-Some c = listed-open _ _ _ _ _ _ c.wishes.ensures _ c.in-Some.ensures _ c.marked.ensures

pub returns-in-None : goal.returns-in-None
returns-in-None c = not_listed _ _ _ _ _ _ c.wishes.ensures c.in-None.ensures
