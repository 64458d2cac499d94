-- What the index breaks, then its kind and that of the array; and it has to be a constant, and one of the array.
use Rattle.std.proofs.Common.{◌≡◌, ◌∙◌, false, None, [], ◌∷◌, refl, ap}
use Rattle.std.specs.Option.{is_some}
use Rattle.smv_value.specs.declared.operator.Operator.TheVariants as operator
use Rattle.smv_kinds.specs.Contexts.{kind_in_context}
use Rattle.smv_verdicts.specs.Verdicts.{or_else}
use Rattle.smv_types.specs.Judged.{as_refusal}
use Rattle.smv_types.specs.Kinds.{is_within, kinds_broken, not_within, told}
use Rattle.smv_types.proofs.Judging.{one_of_three}
use Rattle.smv_types.proofs.kinds.waiting.Goals as goal

pub returns : goal.returns
returns c = λ slots types a r array index is.
    let place = c.args.place in
    let i = c.args.i in
    let kinds =
    c.kinds_broken-kinds.ensures None refl
    ∙ ap (λ x. kinds_broken place operator.Index None (kind_in_context false operator.Index (x ∷ c.args.index ∷ []))) array
    ∙ ap (λ x. kinds_broken place operator.Index None (kind_in_context false operator.Index (told slots types a ∷ x ∷ []))) index in
    let within : i.indexing.within ≡ is_within r = ap (λ x. x.within) is.indexing in
    let outside =
    c.not_within-outside.ensures ∙ ap (λ w. not_within place w c.is_some.result) within
    ∙ ap (not_within place (is_within r)) (c.is_some.ensures ∙ ap (λ x. is_some x.constant) index) in
    c.first-2.ensures ∙ ap (or_else (as_refusal i.notes.name)) c.first.ensures ∙ one_of_three is.notes.name kinds outside
