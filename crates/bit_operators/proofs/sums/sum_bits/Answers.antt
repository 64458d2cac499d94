-- The low bits of a sum.
use Rattle.std.proofs.Common.{refl}
use Rattle.smv_value.specs.declared.operator.Arithmetic.TheVariants as sum
use Rattle.bit_operators.proofs.OfSums.{sum_bits_are}
use Rattle.bit_operators.proofs.sums.sum_bits.Goals as goal

pub returns-in_ok-sum-in-Add-clause-value : goal.returns-in_ok-sum-in-Add-clause-value
returns-in_ok-sum-in-Add-clause-value c = λ v s h w.
    sum_bits_are v sum.Add c.args.o s c.args.a.now c.args.b.now c.in_ok-sum-in-Add.sum.items c.in-Add.is c.requires.lengths w (c.in_ok-sum-in-Add.ensures.value v h)

pub returns-in_ok-sum-in-Subtract-clause-value : goal.returns-in_ok-sum-in-Subtract-clause-value
returns-in_ok-sum-in-Subtract-clause-value c = λ v s h w.
    sum_bits_are v sum.Subtract c.args.o s c.args.a.now c.args.b.now c.in_ok-sum-in-Subtract.sum.items c.in-Subtract.is c.requires.lengths w (c.in_ok-sum-in-Subtract.ensures.value v h)

pub returns-in_ok-sum-in-Multiply-clause-value : goal.returns-in_ok-sum-in-Multiply-clause-value
returns-in_ok-sum-in-Multiply-clause-value c = λ v s h w.
    sum_bits_are v sum.Multiply c.args.o s c.args.a.now c.args.b.now c.in_ok-sum-in-Multiply.sum.items c.in-Multiply.is c.requires.lengths w (c.in_ok-sum-in-Multiply.ensures.value v h)
