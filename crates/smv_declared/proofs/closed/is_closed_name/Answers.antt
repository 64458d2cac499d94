-- The name of a literal.
use Rattle.std.proofs.Common.{◌∙◌, ap, refl, subst}
use Rattle.smv_scope.specs.Lookup.{Target, own_target}
use Rattle.smv_declared.specs.Closed.{LeadsAlike}
use Rattle.smv_declared.proofs.ClosedNames.{closed-name}
use Rattle.smv_declared.proofs.closed.is_closed_name.Goals as goal

pub returns-in-Own : goal.returns-in-Own
returns-in-Own c = λ e.
    let p = c.args.scope.now.program in
    let P : Target → Type 0 = λ t. LeadsAlike t in
    let alike = subst P (c.own_target.ensures ∙ ap (own_target p c.args.from) c.as_str.ensures) (c.leads_to_literal.ensures e) in
    closed-name p c.args.from c.args.name.now c.in-Own.x c.in-Own.is (c.if-not-is_empty.ensures.0 refl) alike
