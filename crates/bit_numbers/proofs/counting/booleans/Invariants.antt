-- The operands so far are these edges.
use Rattle.std.proofs.Common.{◌≡◌, take, map}
use Rattle.bit_operators.specs.declared.symbolic.Symbolic.TheVariants as symbolic
use Rattle.bit_numbers.proofs.counting.booleans.Given as goal

abbrev pub invariant-operands : goal.invariant-operands
invariant-operands l = take l.i l.operands ≡ map symbolic.Boolean l.edges.items
