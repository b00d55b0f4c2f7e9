-- Fewer than 8 cells are tested first; else the numbers of the answer are laid over them. Assumes nothing.
use mathlib.Core.Path.{ap, ◌∙◌}
use Rattle.exports.proofs.Laws.{fewer, enough, answers}
use mathlib.Core.List.{[]}
use Rattle.meaning.specs.Answers.{tested_numbers}
use Rattle.exports.specs.Calls.{answered, test_call}
use Rattle.exports.proofs.frostcrumb_test_table.Goals as goal

pub returns-then-answer-lt8 : goal.returns-then-answer-lt8
unfolding test_call
returns-then-answer-lt8 c = fewer c.args.answer.now _ _ c.if-answer-lt8.true

pub returns : goal.returns
unfolding test_call
returns c =
    let a = c.args in
    answers _ a.answer.now _ _ _ c.lay.ensures
    ∙ ap (λ x. answered (tested_numbers x) a.answer.now []) c.test_table-r.ensures.answer
    ∙ enough a.answer.now _ _ c.if-answer-lt8.false
