-- The word ends where the search for a tab or a line end stops.
use mathlib.Core.Path.{◌≡◌, ap, ◌∙◌}
use lib.ListN.{length, take, drop}
use Rattle.std.proofs.Common.{rules, tests}
use Rattle.std.specs.Option.{unwrap_or}
use Rattle.std.specs.List.{position, position_or_len}
use Rattle.std.proofs.lemmas.Iterator.{YieldsList-from_slice}
use Rattle.std.proofs.lemmas.Iterator.Search.{position_from_yields_List}
use Rattle.fields.proofs.Ways.{ends?, end-found, word-cut, rest-cut}
use Rattle.fields.proofs.Cursor.word.Goals as goal

pub returns : goal.returns
returns c =
    let q = c.args.self.now.rest.now in
    let found : c.position-n.result ≡ position ends? q = position_from_yields_List ends? _ _ c.position-n.result c.position-n.ensures.ran (YieldsList-from_slice q c.iter.ensures.rest) (λ x b q k. search (rules, tests)) in
    let at : c.unwrap_or.result ≡ position_or_len ends? q = c.unwrap_or.ensures ∙ ap (λ o. unwrap_or o (length q)) found ∙ end-found q in
    record {
      word = c.split_at.ensures.front ∙ ap (λ n. take n q) at ∙ word-cut q;
      rest = c.split_at.ensures.back ∙ ap (λ n. drop n q) at ∙ rest-cut q;
    }
