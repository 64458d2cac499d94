-- Of what is no temporal operator no bounds are told.
use Rattle.std.proofs.Common.{◌≡◌, ◌∙◌, Err, Some, ap, sym, subst}
use Rattle.smv_kinds.specs.Contexts.{kind_in_context}
use Rattle.smv_kinds.specs.Kinds.{Given}
use Rattle.smv_types.specs.Judged.{as_refusal}
use Rattle.smv_types.specs.Kinds.{kinds_broken}
use Rattle.smv_types.proofs.Bounds.{plainly_broken}
use Rattle.smv_types.proofs.kinds.kinds_broken.Goals as goal

pub returns-in-Err : goal.returns-in-Err
returns-in-Err c = λ constants is.
    let place = c.args.place in
    let o = c.args.operator in
    let given : Err c.in-Err.rule ≡ kind_in_context c.args.sets o c.args.operands.now = sym c.in-Err.is ∙ c.kind_in_context.ensures in
    let P : Given → Type 0 = λ g. as_refusal (Some c.new.result) ≡ kinds_broken place o constants g in
    subst P given (rw (c.new.ensures, c.rule_of.ensures) (sym (ap Some (plainly_broken place o constants c.in-Err.rule is))))
