-- The first element that is told so, or none.
use Rattle.std.proofs.Common.{ap, pos, subst, sym, ◌∙◌, Some}
use Rattle.std.specs.List.{list_any}
use Rattle.std.proofs.lemmas.List.{take_all}
use Rattle.smv_value.specs.declared.value.Value.{Value}
use Rattle.value_types.specs.declared.value_type.Element.TheVariants as element
use Rattle.value_types.specs.declared.value_type.ValueType.TheVariants as type
use Rattle.value_texts.specs.Read.{IsRead, is_element_told}
use Rattle.value_texts.proofs.OfElements.{element_told, none_told}
use Rattle.value_texts.proofs.reading.element_read.Goals as goal

pub returns-then-is_element_text : goal.returns-then-is_element_text
returns-then-is_element_text c =
    let names = c.args.symbols.now.names.now in
    subst (λ (v : Value). IsRead names (type.Enumeration c.args.elements.now) c.args.text.now (Some v)) (sym c.value.ensures)
    (element_told names c.args.text.now c.args.elements.now c.loop-e.e-index (element.Int (pos 0)) c.loop-e-test.true (sym c.if-is_element_text.ensures))

pub returns : goal.returns
returns c =
    let names = c.args.symbols.now.names.now in
    none_told names c.args.text.now c.args.elements.now
    (ap (list_any (is_element_told names c.args.text.now)) (sym (take_all c.loop-e.e-index c.args.elements.now c.loop-e-test.false)) ∙ c.loop-e.invariant)
