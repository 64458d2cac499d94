-- The two operands are laid out, and then the operator over them.
use Rattle.std.proofs.Common.{[], ◌∷◌, None, Option, ap, refl, ◌∙◌}
use Rattle.std.specs.Prelude.{ℤ, slice_index_or}
use Rattle.smv_layout.specs.Nodes.{laid_at}
use Rattle.smv_layout.proofs.Laying.{applied_along, laid_at_kept, two_laid}
use Rattle.smv_layout.proofs.Standing.{IsLaid_grown, laid_along}
use Rattle.smv_layout.proofs.expressions.link.Goals as goal

pub returns-clause-laid : goal.returns-clause-laid
returns-clause-laid c =
    let old = c.args.nodes.now in
    let mid = c.copy_at.new.nodes in
    let new = c.copy_at-2.new.nodes in
    let left = IsLaid_grown mid new c.in_ok-left.left (laid_at old c.args.entries.now c.args.a) c.in_ok-right.ensures.grows c.in_ok-left.ensures.laid in
    laid_along c.apply.new.nodes c.apply.result _ _
    (applied_along c.args.variables.now c.args.place c.args.operator _ _ _ _ _ _
    refl
    (ap (λ (x : Option ℤ). x ∷ c.index_at-2.result ∷ []) c.index_at.ensures ∙ ap (λ (x : Option ℤ). slice_index_or c.args.indices.now c.args.a None ∷ x ∷ []) c.index_at-2.ensures)
    (two_laid new c.in_ok-left.left c.in_ok-right.right _ _ left.is
    (c.in_ok-right.ensures.laid.is ∙ laid_at_kept old mid c.args.entries.now c.args.b c.in_ok-left.ensures.grows c.requires.stand)))
    c.apply.ensures.laid
