use Rattle.std.proofs.Common.{◌∙◌, true, false}
use Rattle.frame_tests.specs.ThreeBits.{middle_values}
use Rattle.frame_tests.proofs.OfThreeBits.{middle_state}
use Rattle.frame_tests.proofs.three_bits.middle_state.Goals as goal

pub found-requires : goal.found-requires
found-requires c = middle_state c.args.system.now c.requires

pub returns : goal.returns
unfolding middle_values
returns c = c.in_ok-state.ensures ∙ (λ i. record { system = c.requires i; values = middle_values; is_step = true; first = false })
