-- The numbers that were read are in their ranges.
use Rattle.fields.proofs.Words.{number-back}
use Rattle.ruling_text.proofs.sizes_at.Goals as goal

pub invariant_of-result : goal.invariant_of-result
invariant_of-result c = record {
  few_trainees = (number-back 3 0 256 _ c.in_ok-trainees.ensures.read).high;
  few_strikes = (number-back 4 0 4096 _ c.in_ok-strikes.ensures.read).high;
}
