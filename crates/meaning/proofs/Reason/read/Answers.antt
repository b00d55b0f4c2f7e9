-- Each arm is its case of `reason_of`. Assumes nothing.
use mathlib.Core.Path.{sym, ap}
use native.Mathlib.Omega.{arith}
use Rattle.meaning.specs.Answers.{reason_of}
use Rattle.meaning.proofs.Answers.{reason-low, reason-high}
use Rattle.meaning.proofs.Reason.read.Goals as goal

pub returns-in-2 : goal.returns-in-2
unfolding reason_of
returns-in-2 c = sym (ap (λ n. reason_of n c.args.witness) c.in-2.is)

pub returns-in-3 : goal.returns-in-3
unfolding reason_of
returns-in-3 c = sym (ap (λ n. reason_of n c.args.witness) c.in-3.is)

pub returns-in-0 : goal.returns-in-0
returns-in-0 c = sym (reason-low _ _ (omega arith))

pub returns-in_default : goal.returns-in_default
returns-in_default c = sym (reason-high _ _ (omega arith))
