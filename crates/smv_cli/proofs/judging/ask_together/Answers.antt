-- What was done is right of the INVARSPECs.
use Rattle.std.proofs.Common.{◌≡◌, ◌∙◌, List, ap, reverse, sym, subst}
use Rattle.std.proofs.lemmas.List.{reverse-reverse}
use Rattle.clause_core.specs.Systems.{TransitionSystem}
use Rattle.frame_core.specs.FrameLaw.{AreAlike}
use Rattle.smv_resolve.specs.Items.{ResolvedItem}
use Rattle.smv_meaning.specs.Runs.{specifications_of}
use Rattle.prove_run.specs.declared.answers.Answer.{Answer}
use Rattle.prove_run.specs.declared.effort.Effort.{Effort as ProverEffort}
use Rattle.prove_run.specs.Answers.{IsDone}
use Rattle.smv_cli.specs.Records.{prover_effort}
use Rattle.smv_cli.specs.Written.{AreAnswersOf, pooled, program_in}
use Rattle.smv_cli.proofs.Asking.{all_answered, enough}
use Rattle.smv_cli.proofs.Pooling.{still_alike}
use Rattle.smv_cli.proofs.judging.ask_together.Goals as goal

pub pooled-requires : goal.pooled-requires
pooled-requires g c =
    let model = c.args.model.now in
    enough (program_in model) model.built c.args.specs.now model.flat.typed.nodes c.requires.ready.built c.requires.listed

pub prove_all-requires-clause-alike : goal.prove_all-requires-clause-alike
prove_all-requires-clause-alike g c _ _ =
    let model = c.args.model.now in
    let p = program_in model in
    let found : c.in_ok-systems.systems.items ≡ pooled (specifications_of p) model.built.systems =
    c.in_ok-systems.ensures model.flat.typed.nodes ∙ ap (λ (xs : List ResolvedItem). pooled xs model.built.systems) c.requires.listed in
    subst AreAlike (sym (c.deref.ensures.value ∙ found)) (still_alike (specifications_of p) model.built.systems (c.what_is_built_is_alike.ensures p model.built c.requires.ready.built))

pub returns : goal.returns
returns g c =
    let model = c.args.model.now in
    let p = program_in model in
    let history = c.in_ok-done.done.work.history.items in
    let answers = c.in_ok-done.done.answers.items in
    let found : c.in_ok-systems.systems.items ≡ pooled (specifications_of p) model.built.systems =
    c.in_ok-systems.ensures model.flat.typed.nodes ∙ ap (λ (xs : List ResolvedItem). pooled xs model.built.systems) c.requires.listed in
    let by_effort : IsDone c.deref.result.now (prover_effort model.effort) history answers =
    subst (λ (e : ProverEffort). IsDone c.deref.result.now e history answers) c.prover_effort-effort.ensures c.in_ok-done.ensures in
    let done : IsDone (pooled (specifications_of p) model.built.systems) (prover_effort model.effort) history answers =
    subst (λ (s : List TransitionSystem). IsDone s (prover_effort model.effort) history answers) (c.deref.ensures.value ∙ found) by_effort in
    let turned : answers ≡ reverse c.reverse.new.self.items = sym (reverse-reverse answers) ∙ ap reverse (sym c.reverse.ensures.items) in
    λ _. subst (AreAnswersOf p model.effort (specifications_of p) model.built.systems) turned
    (all_answered p model.effort model.built history answers c.if-not-model.false c.requires.ready.built done)
