-- The rows of a bad run are a run that breaks the specification.
use Rattle.std.proofs.Common.{◌≡◌, ◌∙◌, ◌-◌, Bool, List, length, map, take, ap, sym, subst}
use Rattle.clause_core.specs.Assignments.{assignment_of}
use Rattle.smv_value.specs.declared.value.Value.{Value}
use Rattle.smv_meaning.specs.Runs.{Breaks}
use Rattle.bit_states.specs.Layouts.{BitLayout}
use Rattle.bit_system.specs.Building.{system_of}
use Rattle.bit_states.specs.Coding.{decoded}
use Rattle.bit_system.proofs.Agreeing.{agreeing}
use Rattle.bit_runs.specs.Running.{inputs_in, states_in}
use Rattle.bit_runs.proofs.Replaying.{replayed}
use Rattle.bit_runs.proofs.runs.run_of.Goals as goal

pub returns-clause-breaks : goal.returns-clause-breaks
returns-clause-breaks c = λ p j spec built at kind bad.
    let b = c.args.built.now in
    let rows = c.args.run.now in
    let sys = system_of b j in
    let stands = built.stands j spec at kind in
    let states = c.in_ok-states.states in
    let inputs = c.in_ok-inputs.inputs in
    let states_are : states ≡ states_in p rows = c.in_ok-states.ensures ∙ ap (λ (l : BitLayout). map (λ (x : List Bool). decoded l.state_types l.state (assignment_of x)) rows) built.layout in
    let inputs_are : inputs ≡ inputs_in p rows =
    c.in_ok-inputs.ensures ∙ ap (λ (l : BitLayout). map (λ (x : List Bool). decoded l.input_types l.inputs (assignment_of x)) (take (length rows - 1) rows)) built.layout in
    subst (λ (us : List (List Value)). Breaks p spec states us) (sym inputs_are)
    (subst (λ (ss : List (List Value)). Breaks p spec ss (inputs_in p rows)) (sym states_are) (replayed p spec sys stands (agreeing p spec sys stands) rows bad))
