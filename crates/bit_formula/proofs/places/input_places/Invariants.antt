-- The places so far, and what is reached behind these inputs.
use Rattle.std.proofs.Common.{◌≡◌, ◌+◌}
use Rattle.std.specs.List.{flat_map, range_with_len}
use Rattle.bit_formula.specs.Coding.{places_by}
use Rattle.bit_formula.proofs.Placing.{HasReached}
use Rattle.bit_formula.proofs.places.input_places.Given as goal

abbrev pub invariant-loop-k : goal.invariant-loop-k
invariant-loop-k l = record {
  reached : HasReached l.types l.reads l.slots (l.joint + l.joint) l.k l.reached.read l.reached.own l.reached.other;
  made : l.places.items ≡ flat_map (places_by l.types l.slots l.reads) (range_with_len 0 l.k);
}
