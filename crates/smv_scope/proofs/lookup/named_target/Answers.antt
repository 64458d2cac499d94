use Rattle.std.proofs.Common.{ap, ◌∙◌}
use Rattle.smv_scope.specs.Lookup.{named_target}
use Rattle.smv_scope.proofs.lookup.named_target.Goals as goal

pub returns-in-Some : goal.returns-in-Some
returns-in-Some c = c.variable_target.ensures ∙ ap (named_target c.args.scope.now.program c.args.instance c.args.m c.args.name.now) c.in-Some.ensures

pub returns-in-None : goal.returns-in-None
returns-in-None c = c.definition_target.ensures ∙ ap (named_target c.args.scope.now.program c.args.instance c.args.m c.args.name.now) c.in-None.ensures
