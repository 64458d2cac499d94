use Rattle.std.proofs.Common.{◌∙◌}
use Rattle.smv_value.proofs.Bits.{low_turned}
use Rattle.smv_value.proofs.words.negative_bits.Goals as goal

pub returns : goal.returns
returns c = λ s. c.low.ensures ∙ low_turned s c.args.width c.args.a c.requires
