-- What is left of the variables says what the sections do.
use Rattle.std.proofs.Common.{◌∙◌, ap}
use Rattle.std.proofs.lemmas.Result.{IfOk-weaker}
use Rattle.smv_scope.specs.Instances.{module_at}
use Rattle.smv_declared.specs.Closed.{SayAll, SayInSections, read}
use Rattle.smv_declared.proofs.Instances.{say_in_sections}
use Rattle.smv_declared.proofs.judged.open_variables.Goals as goal

pub returns : goal.returns
returns c =
    let p = c.args.scope.now.program in
    let from = c.args.from in
    let all = read c.as_slice.result.now in
    IfOk-weaker c.open_among.result (λ again. SayAll p from all (read again.items)) (λ again. SayInSections p (module_at p from) c.args.sections.now (read again.items))
    (λ again say. say_in_sections p from c.args.sections.now all (read again.items) (ap read c.as_slice.ensures.value ∙ c.in_ok-all.ensures) say c.requires) c.open_among.ensures
