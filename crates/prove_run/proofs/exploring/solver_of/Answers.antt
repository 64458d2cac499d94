use Rattle.std.proofs.Common.{List, [], subst, sym}
use Rattle.std.specs.Prelude.{◌<◌, ◌≡◌, length, IfOk}
use Rattle.clause_core.specs.Systems.{TransitionSystem}
use Rattle.frame_core.specs.FrameLaw.{AreAlike}
use Rattle.frame_query.specs.Findings.{SolverView}
use Rattle.prove_run.proofs.exploring.solver_of.Goals as goal

pub new-requires-clause-some : goal.new-requires-clause-some
new-requires-clause-some c = subst (λ (z : List TransitionSystem). 0 < length z) (sym c.systems.ensures.value) c.systems.ensures.law.some

pub new-requires-clause-alike : goal.new-requires-clause-alike
new-requires-clause-alike c = subst AreAlike (sym c.systems.ensures.value) c.systems.ensures.law.alike

pub returns : goal.returns
returns c =
    subst (λ (z : List TransitionSystem). IfOk c.new.result (λ (s : SolverView). s ≡ record { systems = z; lemmas = []; known = [] })) c.systems.ensures.value
    c.new.ensures
