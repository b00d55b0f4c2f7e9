-- Fewer than 8 cells are tested first; else the numbers of the answer are laid over them. Assumes nothing.
use mathlib.Core.Path.{ap, ◌∙◌}
use Rattle.exports.proofs.Laws.{fewer, enough, answers}
use Rattle.exports.specs.Calls.{after_writing, write_call}
use Rattle.exports.proofs.frostcrumb_write_placement.Goals as goal

pub returns-then-answer-lt8 : goal.returns-then-answer-lt8
unfolding write_call
returns-then-answer-lt8 c = fewer c.args.answer.now _ _ c.if-answer-lt8.true

pub returns : goal.returns
unfolding write_call
returns c =
    let a = c.args in
    answers _ a.answer.now _ _ _ c.lay.ensures
    ∙ ap (λ x. after_writing x a.answer.now) c.write_placement-r.ensures
    ∙ enough a.answer.now _ _ c.if-answer-lt8.false
