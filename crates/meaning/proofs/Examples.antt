-- The worked examples of document 01, as one statement that the definitions compute; and each is legal.
-- Assumes nothing.
use mathlib.Core.Path.{◌≡◌, refl}
use mathlib.Core.Bool.{true}
use mathlib.Core.List.{List, [], ◌∷◌, map}
use Rattle.meaning.specs.Numbers.{◌&◌, ◌or◌, imp, all, sum, count, first_from}
use Rattle.meaning.specs.Lists.{place, Each, each_none, each_more, some?}
use Rattle.meaning.specs.Placement.{Legal}
use Rattle.meaning.specs.Full.{and_then, on_line, full_depot, all_from, full}
use Rattle.meaning.specs.Market.{trainee_list, depot_of, market, same_kind, names, standing, mutual?, placed}
use Rattle.meaning.specs.Strikes.{above_struck, down_struck, ahead, fits, allowed, struck, left?, first_left, weight, mutual_pairs}
use Rattle.meaning.specs.Endings.{table_of, left_from, left_table, blocks?, within?, stable?, obeys?, obeys_all?, respecting?, broken?, first_broken, room?, room_or, room_from, none_room_of, placed_or, held_or, outcome_of}
use Rattle.meaning.specs.Solver.{row_by, rows_by, sweeps_by, lowest, choose, strike_for, visit, strikes_of, ruling_by, solve, ruled}
use Rattle.meaning.specs.Examples.{Example, examples}
use Rattle.meaning.proofs.Legal.{legal?, legal-is}

-- every example is answered as the document says
pub examples-answered : map (λ (x : Example). ruled x.placement) examples ≡ map (λ (x : Example). x.answer) examples
unfolding examples ruled and_then full all_from on_line full_depot solve ruling_by strikes_of sweeps_by rows_by row_by visit strike_for choose lowest fits allowed struck left? mutual_pairs weight above_struck down_struck ahead mutual? placed market standing names same_kind trainee_list depot_of place some? first_from all count sum imp ◌&◌ ◌or◌ outcome_of held_or placed_or none_room_of room_from room_or room? broken? first_broken respecting? obeys_all? obeys? stable? within? blocks? table_of left_table left_from first_left
examples-answered = refl

examples-pass : map (λ (x : Example). legal? x.placement) examples ≡ map (λ (x : Example). true) examples
unfolding examples legal?
examples-pass = refl

-- and each example's placement is legal
pub examples-legal : Each (λ (x : Example). Legal x.placement) examples
examples-legal = every examples examples-pass
  where
    every : (xs : List Example) → map (λ (x : Example). legal? x.placement) xs ≡ map (λ (x : Example). true) xs → Each (λ (x : Example). Legal x.placement) xs
    every [] e = each_none
    every (x ∷ xs) e =
        let h : legal? x.placement ≡ true = cc in
        let t : map (λ (x : Example). legal? x.placement) xs ≡ map (λ (x : Example). true) xs = cc in
        each_more (legal-is x.placement h) (every xs t)
