use Rattle.std.proofs.Common.{arith}
use Rattle.std.proofs.lemmas.Nat.{pow_below}
use Rattle.smv_text.proofs.Counting.{too_wide}
use Rattle.smv_text.proofs.numbers.fits_width.Goals as goal

pub pow-requires : goal.pow-requires
pow-requires c = pow_below c.args.bits 128 (omega arith)

pub returns-in-None : goal.returns-in-None
returns-in-None c = too_wide c.args.letter c.base_of.result c.args.bits c.args.digits.now c.base_of.ensures.value (omega arith) c.in-None.ensures
