use Rattle.std.proofs.Common.{List, ap, sym, ◌∙◌, slice_get}
use Rattle.smv_tree.specs.declared.tree.Expr.{Expr}
use Rattle.smv_resolve.specs.FirstPlaces.{first_place}
use Rattle.smv_resolve.proofs.FirstPlaces.{first_place-apply, first_or-none, first_or-some}
use Rattle.smv_resolve.proofs.first_places.+first_place.Goals as goal

pub returns-in-None : goal.returns-in-None
returns-in-None t c =
    sym (ap first_place c.in-Apply.is ∙ first_place-apply _ _ _ _ ∙ first_or-none c.in-Apply.place c.in-Apply.beside (ap (λ (es : List Expr). slice_get es 0) (sym c.as_slice.ensures) ∙ sym c.in-None.ensures))

pub returns-in-Some : goal.returns-in-Some
returns-in-Some t c =
    c.first_place-in-Some.ensures
    ∙ sym (ap first_place c.in-Apply.is ∙ first_place-apply _ _ _ _ ∙ first_or-some c.in-Apply.place c.in-Apply.beside c.in-Some.first.now (ap (λ (es : List Expr). slice_get es 0) (sym c.as_slice.ensures) ∙ sym c.in-Some.ensures))
