use Rattle.std.proofs.Common.{ap, ◌∙◌}
use Rattle.smv_scope.specs.Lookup.{own_of_module, parameter_or_member, given_by, or_symbol}
use Rattle.smv_scope.proofs.lookup.own_target.Goals as goal

pub returns-in-Some-parameter_named : goal.returns-in-Some-parameter_named
returns-in-Some-parameter_named c =
    let p = c.args.scope.now.program in
    c.given_by.ensures ∙ ap (given_by p c.args.instance c.in-Some-parameter_named.k) c.parent_at.ensures
    ∙ ap (parameter_or_member p c.args.instance c.args.name.now) c.in-Some-parameter_named.ensures
    ∙ ap (λ o. own_of_module p c.args.instance o c.args.name.now) c.in-Some.ensures

pub returns-in-None : goal.returns-in-None
returns-in-None c =
    let p = c.args.scope.now.program in
    c.or_symbol.ensures ∙ ap (or_symbol p c.args.name.now) c.member_target.ensures
    ∙ ap (parameter_or_member p c.args.instance c.args.name.now) c.in-None.ensures
    ∙ ap (λ o. own_of_module p c.args.instance o c.args.name.now) c.in-Some.ensures
