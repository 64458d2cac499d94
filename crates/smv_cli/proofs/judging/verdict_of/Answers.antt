-- The run to a bad state is a run that breaks the specification.
use Rattle.std.proofs.Common.{◌-◌, List, subst, sym}
use Rattle.smv_value.specs.declared.value.Value.{Value}
use Rattle.smv_meaning.specs.Runs.{Breaks}
use Rattle.bit_system.specs.Building.{system_of}
use Rattle.smv_cli.specs.Records.{IsCertified, IsShownBy}
use Rattle.smv_cli.specs.Written.{IsAnswered, item_in, program_in}
use Rattle.smv_cli.proofs.Asking.{shown_if}
use Rattle.smv_cli.proofs.judging.verdict_of.Goals as goal

pub replayed-requires-clause-broken : goal.replayed-requires-clause-broken
replayed-requires-clause-broken c =
    let model = c.args.model.now in
    let p = program_in model in
    let spec = item_in model c.args.spec.now in
    let run = c.in_ok-run-in-False.run' in
    let bad = subst (IsAnswered p model.effort (system_of model.built (c.args.number - 1)) spec) c.in-False.is c.requires.answered in
    let broken = c.in_ok-run-in-False.ensures.breaks p (c.args.number - 1) spec c.requires.ready.built c.requires.numbered c.requires.invariant bad in
    subst (λ (s : List (List Value)). Breaks p spec s c.as_slice-inputs.result.now) (sym c.as_slice-states.ensures)
    (subst (λ (u : List (List Value)). Breaks p spec run.states u) (sym c.as_slice-inputs.ensures) broken)

pub returns-in-True : goal.returns-in-True
returns-in-True c =
    let model = c.args.model.now in
    let p = program_in model in
    let spec = item_in model c.args.spec.now in
    let sys = system_of model.built (c.args.number - 1) in
    let shown = subst (IsAnswered p model.effort sys spec) c.in-True.is c.requires.answered in
    let stands = c.requires.ready.built.stands (c.args.number - 1) spec c.requires.numbered c.requires.invariant in
    let certified : IsCertified p spec c.in-True.certificate = record { system = sys; stands = stands; certifies = shown.0; no_counter = shown.1 } in (
      c.what_is_never_bad_is_unbroken.ensures.all p spec sys stands (λ n x reached bad. c.no_run_reaches_bad.ensures sys c.in-True.certificate shown.0 n x reached bad),
      subst (IsShownBy model.effort.cert p spec) (sym c.if_wanted.ensures) (shown_if p spec model.effort.cert c.in-True.certificate certified),
    )
