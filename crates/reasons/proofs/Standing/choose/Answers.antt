-- The reasons are tried from the lowest; each test is the meaning's, read off a row or a pass along the list.
use mathlib.Core.Path.{sym, ap, ◌∙◌}
use Prim.Native.Nat.{◌-◌}
use Rattle.rows.specs.Marks.{with_mark}
use Rattle.rows.specs.Left.{first_place_left}
use Rattle.reasons.specs.Answers.{choice_of}
use Rattle.reasons.proofs.Steps.{choose-barred, choose-elsewhere, choose-crowded}
use Rattle.reasons.proofs.Standing.choose.Goals as goal

pub returns-then-marked : goal.returns-then-marked
unfolding choice_of
returns-then-marked c = choose-barred _ _ c.args.self.now.holds.now _ _ c.args.i c.args.j (sym c.marked.ensures ∙ c.if-marked.true)

pub returns-then-at-lt64 : goal.returns-then-at-lt64
unfolding choice_of
returns-then-at-lt64 c = choose-elsewhere _ _ _ _ _ c.args.i c.args.j (sym c.marked.ensures ∙ c.if-marked.false) _ (c.first_left-at.ensures ∙ ap first_place_left (c.with_mark-free.ensures ∙ ap (λ x. with_mark x (c.args.j - 1)) c.turn.ensures)) c.if-at-lt64.true

pub returns : goal.returns
returns c = c.crowded.ensures ∙ sym (choose-crowded _ _ _ _ _ c.args.i c.args.j (sym c.marked.ensures ∙ c.if-marked.false) _ (c.first_left-at.ensures ∙ ap first_place_left (c.with_mark-free.ensures ∙ ap (λ x. with_mark x (c.args.j - 1)) c.turn.ensures)) c.if-at-lt64.false)
