-- What is noted in the context of the constraint is judged at the root.
use Rattle.std.proofs.Common.{◌≡◌, ◌∙◌, refl}
use Rattle.smv_types.specs.Judged.{timed_refusal}
use Rattle.smv_types.specs.Kinds.{Context, at_root, context_of_constraint, formula_refusal, kind_refusal}
use Rattle.smv_types.proofs.items.constraint_violation.Goals as goal

pub returns : goal.returns
returns c slots types e is =
    let value = c.args.value in
    let context = context_of_constraint c.args.which in
    let broken : timed_refusal c.timed.result ≡ kind_refusal slots types context e =
    c.timed.ensures.same ∙ c.constraint_note.ensures (λ (x : Context). kind_refusal slots types x e) is.judged.notes in
    let inside : at_root value.judged.is_window value.judged.place value.kind (timed_refusal c.timed.result) ≡ formula_refusal slots types context e =
    rw (is.judged.window, is.judged.place, is.kind, broken) refl in
    c.at_root.ensures ∙ inside
