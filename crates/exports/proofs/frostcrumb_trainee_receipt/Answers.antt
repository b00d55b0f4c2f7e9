-- Fewer than 8 cells are tested first; else the numbers of the answer are laid over them. Assumes nothing.
use mathlib.Core.Path.{ap, ◌∙◌}
use Rattle.exports.proofs.Laws.{fewer, enough, answers}
use mathlib.Core.List.{[]}
use Rattle.meaning.specs.Answers.{receipt_numbers}
use Rattle.exports.specs.Calls.{answered, receipt_call}
use Rattle.exports.proofs.frostcrumb_trainee_receipt.Goals as goal

pub returns-then-answer-lt8 : goal.returns-then-answer-lt8
unfolding receipt_call
returns-then-answer-lt8 c = fewer c.args.answer.now _ _ c.if-answer-lt8.true

pub returns : goal.returns
unfolding receipt_call
returns c =
    let a = c.args in
    answers _ a.answer.now _ _ _ c.lay.ensures
    ∙ ap (λ x. answered (receipt_numbers x) a.answer.now []) c.trainee_receipt-r.ensures
    ∙ enough a.answer.now _ _ c.if-answer-lt8.false
