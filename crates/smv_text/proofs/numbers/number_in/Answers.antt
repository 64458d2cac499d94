use Rattle.std.proofs.Common.{◌+◌, ◌*◌, arith, get_or}
use Rattle.std.specs.Char.{digit_value}
use Rattle.smv_text.specs.Numbers.{number_in}
use Rattle.smv_text.proofs.Counting.{other_eqb, too_large, number_done}
use Rattle.smv_text.proofs.numbers.number_in.Goals as goal

pub returns-in-None : goal.returns-in-None
returns-in-None c = λ h.
    let digits = c.args.digits.now in
    let i = c.loop-digit.digit-index in
    let next = c.loop-digit.n * c.args.base + digit_value (get_or digits i 0) in
    let l = too_large c.args.base c.loop-digit.n i (number_in c.args.base digits) next digits c.requires c.loop-digit-test.true (other_eqb (get_or digits i 0) 95 c.if-digit-ne95.true) c.loop-digit.invariant.behind (omega arith) in
    c.in-None.ensures (omega (arith, l, h))

pub returns : goal.returns
returns c =
    let e = number_done c.args.base c.loop-digit.n c.loop-digit.digit-index (number_in c.args.base c.args.digits.now) c.args.digits.now c.loop-digit-test.false c.loop-digit.invariant.behind in
    (omega (arith, e, c.loop-digit.invariant.fits), e)
