-- An operator over the nodes of its operands.
use Rattle.std.proofs.Common.{List, ℕ, map, subst, sym, ◌∙◌}
use Rattle.smv_layout.specs.Layout.{value_of}
use Rattle.smv_layout.specs.Nodes.{AreNodes, laid_by}
use Rattle.smv_layout.proofs.Standing.{nodes_are, value_laid}
use Rattle.smv_layout.proofs.operators.apply_plain.Goals as goal

pub returns-clause-laid : goal.returns-clause-laid
returns-clause-laid c =
    value_laid c.push_apply.new.nodes c.in_ok-n.n _
    (c.in_ok-n.ensures.node _
    (subst (λ (ks : List ℕ). AreNodes c.args.nodes.now ks (map value_of (map (laid_by c.args.nodes.now) c.args.operands.now))) (sym (c.as_slice.ensures.value ∙ c.in_ok-values.ensures))
    (nodes_are c.args.nodes.now c.args.operands.now c.requires.stand)))
