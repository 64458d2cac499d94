use Rattle.std.proofs.Common.{◌∙◌, true}
use Rattle.frame_tests.specs.ThreeBits.{first_values}
use Rattle.frame_tests.proofs.OfThreeBits.{first_state}
use Rattle.frame_tests.proofs.three_bits.first_state.Goals as goal

pub found-requires : goal.found-requires
found-requires c = first_state c.args.system.now c.requires

pub returns : goal.returns
unfolding first_values
returns c = c.in_ok-state.ensures ∙ (λ i. record { system = c.requires i; values = first_values; is_step = true; first = true })
