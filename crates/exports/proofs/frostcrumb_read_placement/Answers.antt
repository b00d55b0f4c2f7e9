-- Fewer than 8 cells are tested first; else the numbers of the answer are laid over them. Assumes nothing.
use mathlib.Core.Path.{ap, ◌∙◌}
use Rattle.exports.proofs.Laws.{fewer, enough, answers}
use Rattle.exports.specs.Calls.{after_reading, read_call}
use Rattle.exports.proofs.frostcrumb_read_placement.Goals as goal

pub returns-then-answer-lt8 : goal.returns-then-answer-lt8
unfolding read_call
returns-then-answer-lt8 c = fewer c.args.answer.now _ _ c.if-answer-lt8.true

pub returns : goal.returns
unfolding read_call
returns c =
    let a = c.args in
    answers _ a.answer.now _ _ _ c.lay.ensures
    ∙ ap (λ x. after_reading x a.answer.now) c.read_placement-r.ensures
    ∙ enough a.answer.now _ _ c.if-answer-lt8.false
