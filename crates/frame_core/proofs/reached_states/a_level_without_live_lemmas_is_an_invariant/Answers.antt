use Rattle.frame_core.specs.FrameLaw.{system_at, top_at}
use Rattle.frame_core.proofs.Reaching.{inductive_live}
use Rattle.frame_core.proofs.reached_states.a_level_without_live_lemmas_is_an_invariant.Goals as goal

pub returns : goal.returns
returns c = λ f h s below i. inductive_live (system_at f.systems s) f.lemmas (top_at f.tops s) i (h.lemmas s below) (h.safe s below)
