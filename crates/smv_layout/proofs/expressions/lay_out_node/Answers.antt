-- What stands for a node follows from what stands for those before it.
use Rattle.std.proofs.Common.{ap, map, sym, ◌∙◌}
use Rattle.smv_resolve.specs.declared.node.ExprNode.{ExprNode}
use Rattle.smv_resolve.specs.Resolved.{Resolved, part_of, resolved_by}
use Rattle.smv_layout.specs.Layout.{Laid, applied, bounds_in, laid, named, value_of}
use Rattle.smv_layout.specs.Nodes.{laid_at, laid_by}
use Rattle.smv_layout.proofs.Laying.{applied_along, applied_last, applied_two, laid_found, lays}
use Rattle.smv_layout.proofs.expressions.lay_out_node.Goals as goal

pub returns-in-Named-clause-laid : goal.returns-in-Named-clause-laid
returns-in-Named-clause-laid c =
    lays c.args.variables.now c.args.constants.now c.args.indices.now c.args.entries.now c.args.nodes.now c.lay_out_name.new.nodes c.lay_out_name.result
    (named c.in-Named.place c.in-Named.naming (laid_at c.args.nodes.now c.args.entries.now c.in-Named.a)) c.args.node
    (λ parts k e.
    ap (named c.in-Named.place c.in-Named.naming) (laid_found c.args.variables.now c.args.nodes.now c.args.entries.now parts c.in-Named.a e)
    ∙ ap (λ (n : ExprNode). laid c.args.variables.now (resolved_by parts n)) (sym c.in-Named.is))
    c.lay_out_name.ensures.laid

pub returns-in-Operand-clause-laid : goal.returns-in-Operand-clause-laid
returns-in-Operand-clause-laid c =
    lays c.args.variables.now c.args.constants.now c.args.indices.now c.args.entries.now c.args.nodes.now c.copy_at.new.nodes c.copy_at.result
    (laid_at c.args.nodes.now c.args.entries.now c.in-Operand.a) c.args.node
    (λ parts k e. laid_found c.args.variables.now c.args.nodes.now c.args.entries.now parts c.in-Operand.a e ∙ ap (λ (n : ExprNode). laid c.args.variables.now (resolved_by parts n)) (sym c.in-Operand.is))
    c.copy_at.ensures.laid

pub returns-in-Next-clause-laid : goal.returns-in-Next-clause-laid
returns-in-Next-clause-laid c =
    lays c.args.variables.now c.args.constants.now c.args.indices.now c.args.entries.now c.args.nodes.now c.push_value-in-Next.new.nodes c.push_value-in-Next.result
    (Laid.Value (Resolved.Next c.in-Next.place (part_of c.args.nodes.now c.value_at-inner.result))) c.args.node
    (λ parts k e.
    ap (λ (r : Resolved). Laid.Value (Resolved.Next c.in-Next.place r)) (c.value_at-inner.ensures ∙ ap value_of (laid_found c.args.variables.now c.args.nodes.now c.args.entries.now parts c.in-Next.a e))
    ∙ ap (λ (n : ExprNode). laid c.args.variables.now (resolved_by parts n)) (sym c.in-Next.is))
    c.push_value-in-Next.ensures.laid

pub returns-in-Apply-clause-laid : goal.returns-in-Apply-clause-laid
returns-in-Apply-clause-laid c =
    lays c.args.variables.now c.args.constants.now c.args.indices.now c.args.entries.now c.args.nodes.now c.apply.new.nodes c.apply.result
    (applied c.args.variables.now c.in-Apply.place c.in-Apply.operator c.bounds_in.result c.last-in-Apply.result.now (map (laid_by c.args.nodes.now) c.last-in-Apply-2.result.now)) c.args.node
    (λ parts k e.
    applied_along c.args.variables.now c.in-Apply.place c.in-Apply.operator _ _ _ _ _ _ (c.bounds_in.ensures ∙ ap bounds_in c.last.ensures) c.last-in-Apply.ensures (ap (map (laid_by c.args.nodes.now)) c.last-in-Apply-2.ensures)
    ∙ applied_last c.args.variables.now c.in-Apply.place c.in-Apply.operator c.in-Apply.count c.args.nodes.now c.args.entries.now c.args.constants.now c.args.indices.now parts k e
    ∙ ap (λ (n : ExprNode). laid c.args.variables.now (resolved_by parts n)) (sym c.in-Apply.is))
    c.apply.ensures.laid

pub returns-in-Link-clause-laid : goal.returns-in-Link-clause-laid
returns-in-Link-clause-laid c =
    lays c.args.variables.now c.args.constants.now c.args.indices.now c.args.entries.now c.args.nodes.now c.link.new.nodes c.link.result _ c.args.node
    (λ parts k e.
    applied_two c.args.variables.now c.in-Link.place c.in-Link.operator c.in-Link.a c.in-Link.b c.args.nodes.now c.args.entries.now c.args.constants.now c.args.indices.now parts k e
    ∙ ap (λ (n : ExprNode). laid c.args.variables.now (resolved_by parts n)) (sym c.in-Link.is))
    c.link.ensures.laid
