use Rattle.std.proofs.Common.{◌∙◌}
use Rattle.smv_scope.proofs.lookup.child_number.Goals as goal

pub returns : goal.returns
returns c = c.copied.ensures ∙ c.get.ensures.value ∙ c.args.scope.now.children_numbered (record { instance = c.args.instance; variable = c.args.variable })
