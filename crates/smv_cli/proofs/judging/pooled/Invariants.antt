-- The systems of the INVARSPECs so far.
use Rattle.std.proofs.Common.{◌≡◌, List, map, take}
use Rattle.smv_resolve.specs.declared.node.ExprNode.{ExprNode}
use Rattle.smv_resolve.specs.Items.{item_by}
use Rattle.smv_cli.specs.Written.{pooled}
use Rattle.smv_cli.proofs.judging.pooled.Given as goal

abbrev pub invariant-loop-j : goal.invariant-loop-j
invariant-loop-j l = (nodes : List ExprNode) → l.systems.items ≡ pooled (take l.j (map (item_by nodes) l.specs)) l.built.systems
