use Rattle.std.proofs.Common.{ap, ◌∙◌}
use Rattle.smv_scope.specs.Symbols.{definition_by}
use Rattle.smv_scope.proofs.modules.definition_named.Goals as goal

pub returns-in-None : goal.returns-in-None
returns-in-None c = ap (λ o. definition_by o c.args.name.now) c.in-None.ensures.value ∙ (c.args.scope.now.tabled c.args.m).2 c.args.name.now

pub returns-in-Some : goal.returns-in-Some
returns-in-Some c =
    c.copied.ensures ∙ c.get-in-Some.ensures.value ∙ ap (λ o. definition_by o c.args.name.now) c.in-Some.ensures.value
    ∙ (c.args.scope.now.tabled c.args.m).2 c.args.name.now
