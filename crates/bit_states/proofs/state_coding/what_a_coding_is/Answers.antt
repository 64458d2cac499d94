-- The law of all programs.
use Rattle.bit_states.proofs.Codes.{coding}
use Rattle.bit_states.proofs.state_coding.what_a_coding_is.Goals as goal

pub returns : goal.returns
returns c = coding
