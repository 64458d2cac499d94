-- What a solver of frames keeps.
use Rattle.std.specs.Prelude.{◌≡◌, ◌<◌, List, Option, length, All}
use Rattle.clause_core.specs.Literals.{Within}
use Rattle.clause_core.specs.Systems.{TransitionSystem}
use Rattle.frame_core.specs.declared.parts.Lemma.{Lemma}
use Rattle.frame_core.specs.FrameLaw.{AreAlike, system_at}
use Rattle.frame_solver.specs.declared.loading.Engine.{Engine}
use Rattle.frame_solver.specs.Groups.{base, step_heads, state_heads, clauses_of}
use Rattle.frame_solver.specs.Engines.{IsLoaded}
use Rattle.frame_query.specs.declared.kept_proofs.KeptProof.{KeptProof}
use Rattle.frame_query.specs.KeptProofs.{AreKept}

-- the solvers hold the systems and the lemmas, what is known is of the first system, and what is kept are proofs of lemmas
pub record IsKept (systems : List TransitionSystem) (lemmas : List Lemma) (steps states : Engine) (known : TransitionSystem)
    (proofs : List (Option KeptProof)) : Type 0 where
  pub some : 0 < length systems
  pub alike : AreAlike systems
  pub within : All (λ (l : Lemma). Within (system_at systems 0).state_bits l.clause) lemmas
  pub for_steps : IsLoaded (base (system_at systems 0)) (step_heads (system_at systems 0)) (clauses_of lemmas) steps
  pub for_states : IsLoaded (base (system_at systems 0)) (state_heads systems) (clauses_of lemmas) states
  pub of_first : known ≡ system_at systems 0
  pub again : AreKept (system_at systems 0) lemmas proofs
