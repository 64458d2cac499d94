use Rattle.std.proofs.Common.{Bool, Bor, ap, sym, ◌∙◌, map, position, bytes_eq}
use Rattle.std.proofs.lemmas.Result.{on_ok_weaker}
use Rattle.smv_tree.specs.declared.tree.Definition.{Definition}
use Rattle.smv_scope.proofs.Indexing.{position-map}
use Rattle.smv_scope.proofs.symbols.note_definitions.Goals as goal

pub returns : goal.returns
returns c = on_ok_weaker c.note_names.result (λ told name none.
    let p : Definition → Bool = λ d. bytes_eq name d.name in
    told name none
    ∙ sym (position-map p (λ (d : Bor Definition). d.now) c.as_slice.result.now)
    ∙ ap (position p) (ap (map (λ (d : Bor Definition). d.now)) c.as_slice.ensures.value ∙ c.in_ok-definitions.ensures)) c.note_names.ensures
