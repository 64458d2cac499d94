use Rattle.std.proofs.Common.{◌≡◌, ◌++◌, map, take}
use Rattle.smv_resolve.specs.Resolved.{parts_of, part_of}
use Rattle.smv_resolve.specs.Finding.{Grows}
use Rattle.smv_layout.specs.Nodes.{AllStand}
use Rattle.smv_layout.proofs.nodes.push_apply.Given as goal

-- the operands so far stand behind the nodes before
abbrev pub invariant-loop-k : goal.invariant-loop-k
invariant-loop-k l = record {
  grows : Grows l.initial.nodes l.nodes;
  parts : AllStand l.initial.nodes l.operands → parts_of l.nodes ≡ parts_of l.initial.nodes ++ map (part_of l.initial.nodes) (take l.k-index l.operands);
}
