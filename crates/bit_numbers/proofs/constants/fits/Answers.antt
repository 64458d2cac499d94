-- Each integer of 64 bits.
use Rattle.std.proofs.Common.{arith, ◌∙◌, sym}
use Rattle.std.proofs.lemmas.Bool.{le-leb}
use Rattle.bit_numbers.proofs.OfIntegers.{fits_wide}
use Rattle.bit_numbers.proofs.constants.fits.Goals as goal

pub returns-then-width-ge64 : goal.returns-then-width-ge64
returns-then-width-ge64 c = le-leb 64 c.args.width (omega arith) ∙ sym (fits_wide c.args.width c.args.z (omega arith) c.ranges.z)
