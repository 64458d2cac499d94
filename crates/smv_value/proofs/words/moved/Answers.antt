use Rattle.std.proofs.Common.{◌∙◌, ◌%◌, ◌^◌, ap}
use Rattle.smv_value.specs.declared.value.Value.TheVariants as value
use Rattle.smv_value.proofs.Bits.{low_shifted}
use Rattle.smv_value.proofs.words.moved.Goals as goal

pub returns-in-Left : goal.returns-in-Left
returns-in-Left c =
    rw c.in-Left.is (ap (value.Word c.args.signed c.args.width)
    (c.low.ensures ∙ ap (λ n. n % 2 ^ c.args.width) c.shifted_left.ensures
    ∙ low_shifted c.args.signed c.args.width c.args.bits c.args.by c.requires.fits))
