-- One code more.
use Rattle.std.proofs.Common.{rules, arith, ◌<◌, cond, get_or, length, ap, ◌∙◌}
use Rattle.std.proofs.lemmas.Option.{slice_get-get_or, slice_get_within}
use Rattle.bit_graph.specs.Growth.{Extends}
use Rattle.bit_graph.specs.Meaning.{edge_value}
use Rattle.bit_arith.specs.Number.{number_of, values_of}
use Rattle.bit_arith.proofs.Numbers.{AllStand-extends}
use Rattle.bit_choices.proofs.OfSymbols.{recoded_more}
use Rattle.bit_choices.proofs.symbols.recoded_each.Goals as goal

pub symbols-preserved : goal.symbols-preserved
symbols-preserved c =
    let all : Extends c.symbols.graph c.select.new.graph = search rules in
    record {
      extends = search rules;
      code_stands = AllStand-extends c.symbols.graph c.select.new.graph c.args.code.now all c.symbols.invariant.code_stands;
      stand = c.in_ok-next.ensures.stands;
      length = c.in_ok-next.ensures.length ∙ ap length c.deref.ensures.value ∙ c.in_ok-edges.ensures.length;
      value = λ v s h l e.
          let second = c.in_ok-next.ensures.extends.kept v h in
          let first = c.in_ok-here.ensures.extends.kept v second in
          let within : c.symbols.j < length c.args.from.now = omega arith in
          recoded_more v c.args.from.now c.args.to.now (number_of v c.args.code.now) c.symbols.j (get_or c.args.from.now c.symbols.j 0) c.place_of-place.result s (edge_value v c.in_ok-here.here)
          c.in_ok-edges.edges.items c.symbols.made.items c.in_ok-next.next.items l e (slice_get-get_or c.args.from.now c.symbols.j 0 within) c.place_of-place.ensures
          (λ m. c.symbols.invariant.value v s first m e) (c.in_ok-here.ensures.value v second) (c.in_ok-edges.ensures.value v second)
          (c.in_ok-next.ensures.value v h ∙ (λ i. cond (edge_value v c.in_ok-here.here) (values_of v (c.deref.ensures.value i)) (values_of v (c.deref-in-symbols.ensures.value i))));
    }

pub returns-clause-value : goal.returns-clause-value
returns-clause-value c = λ v s h e.
    let within : number_of v c.args.code.now < length c.args.from.now = slice_get_within c.args.from.now (number_of v c.args.code.now) s e in
    c.symbols.invariant.value v s h (omega arith) e
