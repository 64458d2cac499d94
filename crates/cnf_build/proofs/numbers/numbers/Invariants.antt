use Rattle.std.proofs.Common.{◌≡◌, ◌≤◌, length}
use Rattle.cnf_build.specs.Cone.{marked}
use Rattle.cnf_build.specs.Numbering.{is_named, count_below, AreNumbers}
use Rattle.cnf_build.proofs.numbers.numbers.Given as goal

abbrev pub invariant-nodes : goal.invariant-nodes
invariant-nodes l = record {
  size : length l.names.items ≡ l.k;
  numbers : AreNumbers (is_named (marked l.marks) l.graph) l.names.items;
  count : l.count ≡ count_below (is_named (marked l.marks) l.graph) l.k;
  within : l.count ≤ l.k;
}
