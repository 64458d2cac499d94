-- In one width.
use Rattle.std.proofs.Common.{arith, ap, ◌∙◌}
use Rattle.bit_arith.specs.Number.{number_of}
use Rattle.bit_choices.proofs.OfSymbols.{equal_codes}
use Rattle.bit_choices.proofs.symbols.same_codes.Goals as goal

pub returns-clause-value : goal.returns-clause-value
returns-clause-value c = λ v h.
    let before = c.in_ok-equal.ensures.extends.kept v h in
    c.in_ok-equal.ensures.value v h
    ∙ equal_codes v c.args.code.now c.args.other.now c.deref.result.now c.deref-2.result.now c.max-width.result (omega arith) (omega arith)
    (ap (number_of v) c.deref.ensures.value ∙ c.in_ok-left.ensures.value v before) (ap (number_of v) c.deref-2.ensures.value ∙ c.in_ok-right.ensures.value v before)
