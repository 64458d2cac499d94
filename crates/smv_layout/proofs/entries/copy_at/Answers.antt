-- What is not there is stuck, and what is there is copied.
use Rattle.std.proofs.Common.{◌≡◌, Some, ap, ◌∙◌, arith}
use Rattle.std.proofs.lemmas.Result.{IfOk-weaker}
use Rattle.smv_resolve.specs.Resolved.{Resolved, part_of}
use Rattle.smv_resolve.proofs.Parts.{part_past}
use Rattle.smv_layout.specs.declared.laid.LaidNode.{LaidNode}
use Rattle.smv_layout.specs.Layout.{Laid}
use Rattle.smv_layout.specs.Nodes.{IsLaid, entry_by, laid_at}
use Rattle.smv_layout.proofs.Standing.{laid_along, laid_here}
use Rattle.smv_layout.proofs.entries.copy_at.Goals as goal

pub returns-in-None-clause-laid : goal.returns-in-None-clause-laid
returns-in-None-clause-laid c =
    laid_along c.push_value.new.nodes c.push_value.result (Laid.Value (part_of c.args.nodes.now c.len-past.result)) (laid_at c.args.nodes.now c.args.entries.now c.args.k)
    (ap (λ (r : Resolved). Laid.Value r) (part_past c.args.nodes.now c.len-past.result (omega (arith, c.len-past.ensures))) ∙ ap (entry_by c.args.nodes.now) c.in-None.ensures)
    c.push_value.ensures.laid

pub returns-in-Some-clause-laid : goal.returns-in-Some-clause-laid
returns-in-Some-clause-laid c =
    IfOk-weaker c.copied.result (λ (x : LaidNode). x ≡ c.in-Some.x.now) (λ (x : LaidNode). IsLaid c.args.nodes.now x (laid_at c.args.nodes.now c.args.entries.now c.args.k))
    (λ x e. laid_here c.args.nodes.now c.args.entries.now c.args.k x c.requires (ap (λ (y : LaidNode). Some y) e ∙ c.in-Some.ensures))
    c.copied.ensures
