-- The first depot over its posts decides, else the search, with what was counted for it.
use mathlib.Core.Path.{◌∙◌}
use native.Mathlib.Omega.{arith}
use Rattle.stability.proofs.Firsts.{found-one, found_none, answer-over, answer-within}
use Rattle.stability.proofs.Seats.{table-inside}
use Rattle.stability.proofs.Trial.tested_pairs.Goals as goal

pub counts_of-counts-requires : goal.counts_of-counts-requires
counts_of-counts-requires c = let s = c.requires in (omega (arith, s.tables.cells, s.tables.full.few_trainees), λ i r. omega (arith, table-inside _ _ _ s i (rw s.tables.cells at r), s.tables.full.few_depots))

pub returns-in-Some : goal.returns-in-Some
returns-in-Some c = answer-over _ _ _ (found-one _ _ c.in-Some.ensures)

pub returns-in-None : goal.returns-in-None
returns-in-None c = c.first_blocking.ensures ∙ answer-within _ _ (found_none _ c.in-None.ensures)
