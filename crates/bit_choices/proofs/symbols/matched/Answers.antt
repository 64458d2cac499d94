-- One symbol more.
use Rattle.std.proofs.Common.{rules, arith, ◌<◌, false, length, get_or, eqb, ◌∙◌}
use Rattle.std.proofs.lemmas.Option.{slice_get-get_or, slice_get_within}
use Rattle.bit_graph.specs.Growth.{Extends}
use Rattle.bit_graph.specs.Meaning.{edge_value}
use Rattle.bit_arith.specs.Number.{number_of}
use Rattle.bit_arith.proofs.Numbers.{AllStand-extends}
use Rattle.bit_choices.proofs.OfSymbols.{all_gone, matched_more}
use Rattle.bit_choices.proofs.symbols.matched.Goals as goal

pub symbols-preserved : goal.symbols-preserved
symbols-preserved c =
    let all : Extends c.symbols.graph c.or.new.self = search rules in
    record {
      extends = search rules;
      code_stands = AllStand-extends c.symbols.graph c.or.new.self c.args.code.now all c.symbols.invariant.code_stands;
      other_stands = AllStand-extends c.symbols.graph c.or.new.self c.args.other.now all c.symbols.invariant.other_stands;
      stands = c.in_ok-more.ensures.stands;
      value = λ v s t h es et.
          let fourth = c.in_ok-more.ensures.extends.kept v h in
          let third = c.in_ok-both.ensures.extends.kept v fourth in
          let second = c.in_ok-here.ensures.extends.kept v third in
          let first = c.in_ok-same.ensures.extends.kept v second in
          let within : c.symbols.j < length c.args.ys.now = omega arith in
          matched_more c.args.xs.now c.args.ys.now (number_of v c.args.code.now) (number_of v c.args.other.now) c.symbols.j s t (get_or c.args.ys.now c.symbols.j 0)
          (edge_value v c.symbols.equal) (edge_value v c.in_ok-here.here) (edge_value v c.in_ok-same.same) (edge_value v c.in_ok-both.both) (edge_value v c.in_ok-more.more) es et
          (slice_get-get_or c.args.ys.now c.symbols.j 0 within) (c.symbols.invariant.value v s t first es et) (c.in_ok-here.ensures.value v third) (c.in_ok-same.ensures.value v second)
          (c.in_ok-both.ensures.value v fourth) (c.in_ok-more.ensures.value v h);
    }

pub returns-clause-value : goal.returns-clause-value
returns-clause-value c = λ v s t h es et.
    let within : number_of v c.args.other.now < length c.args.ys.now = slice_get_within c.args.ys.now (number_of v c.args.other.now) t et in
    c.symbols.invariant.value v s t h es et ∙ all_gone (number_of v c.args.other.now) c.symbols.j (eqb s t) (omega arith)
