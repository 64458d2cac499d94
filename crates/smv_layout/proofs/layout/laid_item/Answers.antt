-- Its target and its value are laid out.
use Rattle.std.proofs.Common.{Option, ap, ◌∙◌}
use Rattle.smv_resolve.specs.Items.{ResolvedItem, target_by}
use Rattle.smv_resolve.specs.Resolved.{Resolved, part_of}
use Rattle.smv_layout.specs.Layout.{laid_target}
use Rattle.smv_layout.proofs.layout.laid_item.Goals as goal

pub returns : goal.returns
returns c = λ vs from are.
    let x = c.args.item in
    ap (λ (t : Option Resolved). let y : ResolvedItem = record { at = x.at; kind = x.kind; place = x.place; begins = x.begins; target = t; value = part_of c.args.to.now.nodes c.laid_node.result } in y)
    (c.laid_target.ensures vs from are)
    ∙ ap (λ (r : Resolved). let y : ResolvedItem = record { at = x.at; kind = x.kind; place = x.place; begins = x.begins; target = laid_target vs (target_by from x.target); value = r } in y)
    (c.laid_node.ensures vs from are)
