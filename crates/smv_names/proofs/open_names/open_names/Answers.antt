-- The names that are left say what the sections do.
use Rattle.std.proofs.Common.{◌∙◌, ap}
use Rattle.std.proofs.lemmas.Result.{IfOk-weaker}
use Rattle.smv_tree.specs.Occurring.{read}
use Rattle.smv_names.specs.OpenNames.{SayAll, SayInModule}
use Rattle.smv_names.proofs.Opened.{say_in_module}
use Rattle.smv_names.proofs.open_names.open_names.Goals as goal

pub returns : goal.returns
returns c =
    let p = c.args.scope.now.program in
    let all = read c.as_slice-2.result.now in
    IfOk-weaker c.open_among.result (λ again. SayAll p c.args.from all (read again.items)) (λ again. SayInModule p c.args.m (read again.items))
    (λ again say.
    say_in_module p c.args.from c.args.m c.sections_of.result.now (read c.as_slice.result.now) all (read again.items) c.requires c.sections_of.ensures
    (ap read c.as_slice.ensures.value ∙ c.in_ok-expressions.ensures) (ap read c.as_slice-2.ensures.value ∙ c.in_ok-names.ensures) say)
    c.open_among.ensures
