-- A word by its bits.
use Rattle.std.proofs.Common.{true, length, ap, sym, ◌∙◌, subst}
use Rattle.smv_value.specs.Results.{is_value}
use Rattle.smv_value.specs.declared.value.Value.TheVariants as value
use Rattle.bit_values.specs.Bits.{bits_of}
use Rattle.bit_values.proofs.Numbers.{length-bits_of}
use Rattle.std.specs.Prelude.{Some}
use Rattle.bit_numbers.proofs.OfOperators.{constant_value}
use Rattle.bit_numbers.proofs.constants.constant.Goals as goal

pub returns-in_ok-edges-in-Word-clause-value : goal.returns-in_ok-edges-in-Word-clause-value
returns-in_ok-edges-in-Word-clause-value c = λ v h i.
    constant_value v c.in-Word.signed c.in-Word.width c.in-Word.bits c.in_ok-edges-in-Word.edges.items c.from_vec.result
    (c.in_ok-edges-in-Word.ensures.length ∙ ap length (c.deref.ensures.value ∙ c.in_ok-bits-in-Word.ensures) ∙ length-bits_of c.in-Word.width c.in-Word.bits)
    (c.in_ok-edges-in-Word.ensures.value v h ∙ c.deref.ensures.value ∙ c.in_ok-bits-in-Word.ensures) c.from_vec.ensures (sym (ap is_value c.in-Word.is) ∙ i)
    ∙ ap Some (sym c.in-Word.is)
