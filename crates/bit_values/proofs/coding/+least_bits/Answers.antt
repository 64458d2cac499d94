-- One bit for each halving.
use Rattle.std.proofs.Common.{◌≡◌, ℕ, suc, ◌+◌, ◌/◌, ◌%◌, ◌^◌, ◌≤◌, sym, ap, ◌∙◌, arith}
use Rattle.bit_values.specs.Bits.{least_bits}
use Rattle.bit_values.proofs.Widths.{least_bits-le, least_bits-next, least_bits-small}
use Rattle.bit_values.proofs.coding.+least_bits.Goals as goal

pub overflow_add-result : goal.overflow_add-result
overflow_add-result t c =
    let half = c.args.count / 2 + c.args.count % 2 in
    let few : least_bits half ≤ 64 = least_bits-le half 64 (omega arith) in
    omega (arith, few, c.least_bits.ensures)

pub returns-then-count-le1 : goal.returns-then-count-le1
returns-then-count-le1 t c = sym (least_bits-small c.args.count (omega arith))

pub returns-else-count-le1 : goal.returns-else-count-le1
returns-else-count-le1 t c =
    (let e : 1 + c.least_bits.result ≡ suc c.least_bits.result = omega arith in e)
    ∙ ap suc c.least_bits.ensures ∙ sym (least_bits-next c.args.count (omega arith))
