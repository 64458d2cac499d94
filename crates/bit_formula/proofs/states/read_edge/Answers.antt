-- The bit at a place, or FALSE.
use Rattle.std.proofs.Common.{◌∙◌, ◌+◌, ℕ, ap, sym}
use Rattle.bit_graph.specs.declared.edge.Edge.{Edge}
use Rattle.bit_graph.specs.Meaning.{edge_value}
use Rattle.bit_formula.proofs.Joint.{kept_is, kept_none}
use Rattle.bit_formula.proofs.states.read_edge.Goals as goal

pub returns-then-place-joint-clause-value : goal.returns-then-place-joint-clause-value
returns-then-place-joint-clause-value c = λ v holds.
    ap (λ (e : Edge). edge_value v e) c.to.ensures ∙ sym (kept_is c.args.joint (λ (k : ℕ). v (c.args.start + k)) c.args.place c.if-place-joint.true)

pub returns-else-place-joint-clause-value : goal.returns-else-place-joint-clause-value
returns-else-place-joint-clause-value c = λ v holds.
    c.constant.ensures.value v holds ∙ sym (kept_none c.args.joint (λ (k : ℕ). v (c.args.start + k)) c.args.place c.if-place-joint.false)
