-- Fewer bits, or more.
use Rattle.std.proofs.Common.{◌∙◌, ap, arith}
use Rattle.bit_arith.specs.Number.{number_of}
use Rattle.bit_operators.proofs.OfResizing.{low_part, wider}
use Rattle.bit_operators.proofs.resizing.resized.Goals as goal

pub returns-in_ok-low-clause-value : goal.returns-in_ok-low-clause-value
returns-in_ok-low-clause-value c = λ v h.
    ap (number_of v) c.in_ok-low.ensures ∙ low_part v c.args.signed c.args.bits.now c.args.width (omega arith)

pub returns-in_ok-wider-clause-value : goal.returns-in_ok-wider-clause-value
returns-in_ok-wider-clause-value c = λ v h.
    ap (number_of v) c.in_ok-wider.ensures ∙ wider v c.args.signed c.args.bits.now c.sign-fill.result c.args.width (omega arith) (c.sign-fill.ensures.value v h)
