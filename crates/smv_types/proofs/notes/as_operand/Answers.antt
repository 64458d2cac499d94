-- What is no bound is judged as an operand.
use Rattle.std.proofs.Common.{◌≡◌, ◌∙◌, Bool, false, if◌then◌else◌, None, sym, ap}
use Rattle.smv_types.specs.Kinds.{is_bound, unless_bound, under_operand}
use Rattle.smv_types.proofs.Judging.{notes_same}
use Rattle.smv_types.proofs.notes.as_operand.Goals as goal

pub returns-else-is_bound : goal.returns-else-is_bound
returns-else-is_bound c = λ refusal h.
    let o = c.args.operator in
    let k = c.args.operand in
    let free : is_bound o k ≡ false = sym c.is_bound.ensures ∙ c.if-is_bound.false in
    notes_same (λ x. refusal (under_operand o k x)) (λ x. unless_bound o k (refusal (under_operand o k x))) c.under_operand.result
    (λ x. sym (ap (λ (b : Bool). if b then None else refusal (under_operand o k x)) free)) (c.under_operand.ensures refusal h)
