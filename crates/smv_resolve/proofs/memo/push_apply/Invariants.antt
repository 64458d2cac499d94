use Rattle.std.proofs.Common.{◌≡◌, ◌++◌, map, take}
use Rattle.smv_tree.specs.declared.tree.Program.{Program}
use Rattle.smv_resolve.specs.Resolved.{parts_of, part_of}
use Rattle.smv_resolve.specs.Finding.{Grows, AllKnown}
use Rattle.smv_resolve.proofs.memo.push_apply.Given as goal

-- the operands so far stand behind the nodes before
abbrev pub invariant-loop-k : goal.invariant-loop-k
invariant-loop-k l = record {
  grows : Grows l.initial.memo.nodes l.memo.nodes;
  known : (p : Program) → AllKnown p l.initial.memo → AllKnown p l.memo;
  parts : parts_of l.memo.nodes ≡ parts_of l.initial.memo.nodes ++ map (part_of l.initial.memo.nodes) (take l.k-index l.operands);
}
