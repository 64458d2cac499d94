-- Of 128 bits the number has room.
use Rattle.std.proofs.Common.{ℕ, ◌+◌, ◌*◌, ◌^◌, ◌<◌, sym, subst, arith}
use Rattle.bit_values.proofs.Numbers.{high_fits}
use Rattle.bit_values.proofs.coding.number.Goals.{then-bits-i, else-bits-i}
use Rattle.bit_values.proofs.coding.number.Goals as goal

pub overflow_mul-value : goal.overflow_mul-value
overflow_mul-value c =
    let small : c.bits.value < 2 ^ 127 = (let P : ℕ → Type 0 = λ n. n < 2 ^ 127 in subst P (sym c.bits.invariant) (high_fits c.args.bits.now c.bits.i (omega arith) c.requires)) in
    omega arith

pub overflow_add-value : goal.overflow_add-value
overflow_add-value c =
    let small : c.bits.value < 2 ^ 127 = (let P : ℕ → Type 0 = λ n. n < 2 ^ 127 in subst P (sym c.bits.invariant) (high_fits c.args.bits.now c.bits.i (omega arith) c.requires)) in
    elim c.if-bits-i.branch [ then-bits-i w ↦ omega arith | else-bits-i w ↦ omega arith ]
