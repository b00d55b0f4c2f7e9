-- The first stranger decides; where there is none each pair is mutual, which the rest asks for.
use mathlib.Core.Path.{◌∙◌}
use Rattle.meaning.specs.Endings.{table_of}
use Rattle.ranks.specs.View.{wishes_of, market_of}
use Rattle.stability.proofs.Firsts.{all-mutual, found-one, found_none, answer-stranger, answer-pairs}
use Rattle.stability.proofs.Trial.tested.Goals as goal

pub tested_pairs-requires : goal.tested_pairs-requires
unfolding market_of
tested_pairs-requires c = record { tables = c.args.self.now.known; pairs = all-mutual _ _ (found_none _ c.in-None.ensures) }

pub returns-in-Some : goal.returns-in-Some
returns-in-Some c = let s = c.args.self.now in answer-stranger (market_of s.market.heads.now s.market.entries.now) (wishes_of s.market.heads.now s.market.entries.now) (table_of s.table.now) _ (found-one _ _ c.in-Some.ensures)

pub returns-in-None : goal.returns-in-None
unfolding market_of
returns-in-None c = let s = c.args.self.now in c.tested_pairs.ensures ∙ answer-pairs (market_of s.market.heads.now s.market.entries.now) (wishes_of s.market.heads.now s.market.entries.now) (table_of s.table.now) (found_none _ c.in-None.ensures)
