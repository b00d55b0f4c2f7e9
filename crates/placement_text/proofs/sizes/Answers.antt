-- The numbers that were read are within their limits.
use Rattle.fields.proofs.Words.{number-back}
use Rattle.placement_text.proofs.sizes.Goals as goal

pub invariant_of-result : goal.invariant_of-result
invariant_of-result c =
    record {
      few_trainees = (number-back 3 0 256 _ c.in_ok-trainees.ensures.read).high;
      few_depots = (number-back 4 0 64 _ c.in_ok-depots.ensures.read).high;
    }
