-- No bits are read, or they pass the width.
use Rattle.std.proofs.Common.{sym, subst, ◌∙◌, ◌++◌}
use Rattle.value_types.specs.declared.value_type.ValueType.TheVariants as type
use Rattle.value_texts.specs.Read.{IsNumberRead, IsRead, word_front}
use Rattle.value_texts.proofs.OfReading.{no_bits, no_word}
use Rattle.value_texts.proofs.reading.word_of.Goals as goal

pub returns-in_err-bits : goal.returns-in_err-bits
returns-in_err-bits c = λ names digits read.
    let s = c.args.signed in
    let w = c.args.width in
    subst (IsRead names (type.Word s w) (word_front s w ++ digits)) (sym c.from_residual.ensures) (no_bits names s w digits (subst (IsNumberRead digits) c.in_err-bits.was read))

pub returns-else-is_value : goal.returns-else-is_value
returns-else-is_value c = λ names digits read.
    no_word names c.args.signed c.args.width c.in_ok-bits.bits digits (subst (IsNumberRead digits) c.in_ok-bits.was read) (sym c.is_value.ensures ∙ c.if-is_value.false)
