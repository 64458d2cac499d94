-- What is not there is stuck.
use Rattle.std.proofs.Common.{Option, ap, ◌∙◌, arith}
use Rattle.smv_resolve.specs.declared.node.Naming.TheVariants as naming
use Rattle.smv_resolve.specs.Resolved.{Resolved, part_of}
use Rattle.smv_resolve.proofs.Parts.{part_past}
use Rattle.smv_layout.specs.declared.laid.LaidNode.{LaidNode}
use Rattle.smv_layout.specs.Layout.{Laid, named}
use Rattle.smv_layout.specs.Nodes.{entry_by, laid_at}
use Rattle.smv_layout.proofs.Standing.{laid_along}
use Rattle.smv_layout.proofs.expressions.lay_out_given.Goals as goal

pub returns-in-None-clause-laid : goal.returns-in-None-clause-laid
returns-in-None-clause-laid c =
    laid_along c.push_value-in-None.new.nodes c.push_value-in-None.result (Laid.Value (Resolved.Named c.args.place naming.Given (part_of c.args.nodes.now c.len-past.result)))
    (named c.args.place naming.Given (laid_at c.args.nodes.now c.args.entries.now c.args.a))
    (ap (λ (r : Resolved). Laid.Value (Resolved.Named c.args.place naming.Given r)) (part_past c.args.nodes.now c.len-past.result (omega (arith, c.len-past.ensures)))
    ∙ ap (λ (o : Option LaidNode). named c.args.place naming.Given (entry_by c.args.nodes.now o)) c.in-None.ensures)
    c.push_value-in-None.ensures.laid
