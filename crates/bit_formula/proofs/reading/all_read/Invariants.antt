-- The inputs so far.
use Rattle.std.proofs.Common.{◌≡◌, ℕ}
use Rattle.std.specs.List.{filter, list_any, range_with_len}
use Rattle.smv_formulas.specs.Says.{atom_parts}
use Rattle.bit_formula.specs.Reading.{is_read}
use Rattle.bit_formula.proofs.reading.all_read.Given as goal

abbrev pub invariant-loop-k : goal.invariant-loop-k
invariant-loop-k l = l.reads.items ≡ filter (λ (k : ℕ). list_any (is_read l.slots k) (atom_parts l.nodes l.atoms)) (range_with_len 0 l.k)
