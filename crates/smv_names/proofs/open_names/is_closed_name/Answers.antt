-- An own name alone, and the instance itself.
use Rattle.std.proofs.Common.{◌∙◌, ap, refl, subst}
use Rattle.smv_tree.specs.declared.tree.Start.TheVariants as start
use Rattle.smv_scope.specs.Lookup.{Target, own_target}
use Rattle.smv_names.specs.OpenNames.{StaysKnown}
use Rattle.smv_names.proofs.ClosedNames.{closed_own, closed_itself}
use Rattle.smv_names.proofs.open_names.is_closed_name.Goals as goal

pub returns-in-Own : goal.returns-in-Own
returns-in-Own c = λ e.
    let p = c.args.scope.now.program in
    let P : Target → Type 0 = λ t. StaysKnown t in
    let known = subst P (c.own_target.ensures ∙ ap (own_target p c.args.from) c.as_str.ensures) (c.stays_known.ensures e) in
    closed_own p c.args.from c.args.name.now c.in-Own.x c.in-Own.is (c.if-not-is_empty.ensures.0 refl) known

pub returns-in-Itself : goal.returns-in-Itself
returns-in-Itself c = λ e.
    closed_itself c.args.scope.now.program c.args.from c.args.name.now (start.Itself c.in-Itself.field-0) (c.if-not-is_empty.ensures.0 refl) c.in-Itself.is (λ at. refl)
