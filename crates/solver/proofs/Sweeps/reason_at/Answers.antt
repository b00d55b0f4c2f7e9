-- A struck place has no reason; else the reason is the choice for its pair.
use mathlib.Core.Path.{sym, ap, ◌∙◌}
use mathlib.Core.List.{List}
use Prim.Native.Nat.{ℕ}
use lib.ListN.{get_or}
use Rattle.reasons.specs.Answers.{choice_of}
use Rattle.reasons.specs.Reasons.{choice_in}
use Rattle.solver.proofs.Visiting.{reason-marked, reason-left, choose-ready}
use Rattle.solver.proofs.Sweeps.reason_at.Goals as goal

pub returns-then-marked : goal.returns-then-marked
unfolding choice_of
returns-then-marked c = reason-marked _ _ c.args.self.now.standing.now.holds.now c.args.self.now.standing.now.bars.now _ c.args.i c.args.p (sym c.marked.ensures ∙ c.if-marked.true)

pub choose-requires : goal.choose-requires
choose-requires c = choose-ready _ _ _ _ _ _ _ c.args.i c.args.p c.requires.0 c.requires.1 c.requires.2 (sym c.marked.ensures ∙ c.if-marked.false) _ (c.from.ensures ∙ ap (λ (l : List ℕ). get_or l c.args.p 0) c.wishes.ensures)

pub returns : goal.returns
returns c =
    let e = c.from.ensures ∙ ap (λ (l : List ℕ). get_or l c.args.p 0) c.wishes.ensures in
    c.choose.ensures ∙ ap (choice_in _ _ _ _ _ _) e ∙ reason-left _ _ _ _ _ c.args.i c.args.p (sym c.marked.ensures ∙ c.if-marked.false)
