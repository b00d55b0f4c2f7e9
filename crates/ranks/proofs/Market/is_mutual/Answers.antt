-- Mutual is two places; where the first is none the other doesn't matter.
use Rattle.ranks.proofs.Tables.{not-ranked, ranked-in, ranked-back}
use Rattle.ranks.proofs.Market.is_mutual.Goals as goal

pub ranking-requires : goal.ranking-requires
ranking-requires c = ranked-in _ _ _ _ _ _ c.wishes.ensures c.place_on.ensures _ c.is_some.ensures c.args.self.now.full c.if-is_some.true

pub returns-then-is_some : goal.returns-then-is_some
returns-then-is_some c = ranked-back _ _ _ _ _ _ c.wishes.ensures c.place_on.ensures _ c.is_some.ensures c.if-is_some.true _ _ c.ranking.ensures c.place_on-then-is_some.ensures _ c.is_some-then-is_some.ensures

pub returns-else-is_some : goal.returns-else-is_some
returns-else-is_some c = not-ranked _ _ _ _ _ _ c.wishes.ensures c.place_on.ensures _ c.is_some.ensures c.if-is_some.false
