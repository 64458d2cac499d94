-- One symbol more.
use Rattle.std.proofs.Common.{rules, arith, ◌<◌, ◌&&◌, ◌||◌, eqb, not, length, get_or, ap, ◌∙◌}
use Rattle.std.specs.List.{list_any}
use Rattle.std.proofs.lemmas.Option.{slice_get_within}
use Rattle.smv_value.specs.declared.value.Value.TheVariants as value
use Rattle.value_types.specs.Types.{is_element}
use Rattle.bit_arith.specs.Number.{number_of}
use Rattle.bit_arith.proofs.Numbers.{AllStand-extends}
use Rattle.bit_choices.proofs.OfSymbols.{all_gone, at_place, one_more}
use Rattle.bit_choices.proofs.types.is_other_symbol.Goals as goal

pub symbols-preserved : goal.symbols-preserved
symbols-preserved c = record {
  extends = search rules;
  code_stands = AllStand-extends c.symbols.graph c.or_other.new.graph c.args.code.now c.in_ok-more.ensures.extends c.symbols.invariant.code_stands;
  stands = c.in_ok-more.ensures.stands;
  value = λ v s h e.
      let before = c.in_ok-more.ensures.extends.kept v h in
      let k = number_of v c.args.code.now in
      let j = c.symbols.j in
      let y = get_or c.args.symbols.now j 0 in
      c.in_ok-more.ensures.value v h
      ∙ ap (λ b. b || (eqb k j && not (list_any (is_element (value.Sym y)) c.args.elements.now))) (c.symbols.invariant.value v s before e)
      ∙ one_more k j (not (list_any (is_element (value.Sym s)) c.args.elements.now)) (not (list_any (is_element (value.Sym y)) c.args.elements.now))
      (λ q. ap (λ n. not (list_any (is_element (value.Sym n)) c.args.elements.now)) (at_place c.args.symbols.now k j s e q));
}

pub returns-clause-value : goal.returns-clause-value
returns-clause-value c = λ v s h e.
    let within : number_of v c.args.code.now < length c.args.symbols.now = slice_get_within c.args.symbols.now (number_of v c.args.code.now) s e in
    c.symbols.invariant.value v s h e ∙ all_gone (number_of v c.args.code.now) c.symbols.j (not (list_any (is_element (value.Sym s)) c.args.elements.now)) (omega arith)
