use Rattle.frame_core.specs.FrameLaw.{system_at}
use Rattle.frame_core.proofs.Reaching.{holds_within}
use Rattle.frame_core.proofs.reached_states.lemmas_hold_in_reached_states.Goals as goal

pub returns : goal.returns
returns c = λ f h s below. holds_within (system_at f.systems s) f.lemmas (h.lemmas s below)
