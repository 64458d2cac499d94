use Rattle.std.proofs.Common.{◌∙◌, false}
use Rattle.frame_tests.specs.ThreeBits.{last_values}
use Rattle.frame_tests.proofs.OfThreeBits.{last_state}
use Rattle.frame_tests.proofs.three_bits.last_state.Goals as goal

pub found-requires : goal.found-requires
found-requires c = last_state c.args.system.now c.requires

pub returns : goal.returns
unfolding last_values
returns c = c.in_ok-state.ensures ∙ (λ i. record { system = c.requires i; values = last_values; is_step = false; first = false })
