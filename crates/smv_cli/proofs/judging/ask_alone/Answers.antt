-- What was answered of the specification alone is right.
use Rattle.std.proofs.Common.{◌-◌, [], ◌∷◌, arith, subst}
use Rattle.clause_core.specs.Systems.{TransitionSystem}
use Rattle.bit_system.specs.Building.{system_of}
use Rattle.prove_run.specs.declared.effort.Effort.{Effort as ProverEffort}
use Rattle.prove_run.specs.Answers.{IsDone}
use Rattle.smv_cli.specs.Records.{prover_effort}
use Rattle.smv_cli.specs.Written.{item_in, program_in}
use Rattle.smv_cli.proofs.Asking.{answered_alone, has_system}
use Rattle.smv_cli.proofs.judging.ask_alone.Goals as goal

pub system_of-system-requires : goal.system_of-system-requires
system_of-system-requires g c =
    let model = c.args.model.now in
    has_system (program_in model) model.built c.args.number (item_in model c.args.spec.now) c.requires.ready.built c.requires.numbered

pub last_of-requires : goal.last_of-requires
last_of-requires g c =
    let as_many = c.in_ok-done.ensures.each_one in
    omega (arith, as_many)

pub returns : goal.returns
returns g c =
    let model = c.args.model.now in
    let p = program_in model in
    let spec = item_in model c.args.spec.now in
    let sys = system_of model.built (c.args.number - 1) in
    let history = c.in_ok-done.done.work.history.items in
    let answers = c.in_ok-done.done.answers.items in
    let by_effort : IsDone (c.system_of-system.result.now ∷ []) (prover_effort model.effort) history answers =
    subst (λ (e : ProverEffort). IsDone (c.system_of-system.result.now ∷ []) e history answers) c.prover_effort-effort.ensures c.in_ok-done.ensures in
    let done : IsDone (sys ∷ []) (prover_effort model.effort) history answers =
    subst (λ (s : TransitionSystem). IsDone (s ∷ []) (prover_effort model.effort) history answers) c.system_of-system.ensures by_effort in
    answered_alone p model.effort spec sys history answers c.last_of.result c.requires.alone (c.requires.ready.built.stands (c.args.number - 1) spec c.requires.numbered c.requires.invariant) done c.last_of.new.answers.items c.last_of.ensures
