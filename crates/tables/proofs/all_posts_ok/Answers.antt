-- Each depot's posts are decoded alone.
use Prim.Native.Nat.{◌+◌, ◌*◌}
use lib.ListN.{get_or, drop}
use Rattle.std.proofs.Common.{◌≡◌, ap, ◌∙◌, refl, arith, rules, tests}
use Rattle.std.proofs.lemmas.Iterator.{YieldsList-from_range}
use Rattle.std.proofs.lemmas.Iterator.Search.{all_from_yields_List}
use Rattle.tables.specs.Cells.{depot_start}
use Rattle.tables.specs.Decode.{posts_from}
use Rattle.tables.specs.Walk.{is_some, all_posts}
use Rattle.tables.proofs.Walk.{posts-each}
use Rattle.tables.proofs.all_posts_ok.Goals as goal

pub returns : goal.returns
returns c =
    let a = c.args in
    let z : depot_start a.n 1 ≡ 3 + 2 * a.n = omega arith in
    all_from_yields_List (λ j. is_some (posts_from (get_or a.heads.now (depot_start a.n j + 2) 0))) _ _ _ c.all.ensures.ran
    (YieldsList-from_range 1 (a.m + 1) a.m refl (omega arith)) (λ x b q k. search (rules, tests))
    ∙ posts-each a.n a.heads.now a.m 1 ∙ ap (λ i. all_posts a.m (drop i a.heads.now)) z
