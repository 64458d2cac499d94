-- Some node is laid out.
use Rattle.std.proofs.Common.{Option, Some, ℕ, ap, sym, ◌∙◌}
use Rattle.smv_resolve.specs.Items.{target_by}
use Rattle.smv_resolve.specs.Resolved.{Resolved}
use Rattle.smv_layout.specs.Layout.{laid_target}
use Rattle.smv_layout.proofs.layout.laid_target.Goals as goal

pub returns-in-Some : goal.returns-in-Some
returns-in-Some c = λ vs from are. ap (λ (r : Resolved). Some r) (c.laid_node.ensures vs from are) ∙ ap (λ (t : Option ℕ). laid_target vs (target_by from t)) (sym c.in-Some.is)
