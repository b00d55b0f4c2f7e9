-- What `all` tries of each cell is what the definition tries.
use mathlib.Core.Path.{◌∙◌}
use lib.Dec.{leb}
use Rattle.std.proofs.Common.{rules, tests}
use Rattle.std.proofs.lemmas.Iterator.{YieldsList-from_slice}
use Rattle.std.proofs.lemmas.Iterator.Search.{all_from_yields_List}
use Rattle.stability.proofs.Guards.{all-read}
use Rattle.stability.proofs.depots_ok.Goals as goal

pub returns : goal.returns
returns c = all_from_yields_List (λ j. leb j 64) _ _ c.all.result c.all.ensures.ran (YieldsList-from_slice c.args.cells.now cc) (λ x b q k. search (rules, tests)) ∙ all-read c.args.cells.now
