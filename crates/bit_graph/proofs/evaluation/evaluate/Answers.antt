use Rattle.std.proofs.Common.{◌≡◌, ◌<◌, ◌∷◌, ◌++◌, [], ◌∙◌, ap, sym, arith, length, false, below_more, rules}
use Rattle.std.proofs.lemmas.List.{get_or_append_left}
use Rattle.std.proofs.Math.Seq.{get_or-append_seam}
use Rattle.bit_graph.specs.Values.{assigned, values}
use Rattle.bit_graph.proofs.Unique.{values-more}
use Rattle.bit_graph.proofs.evaluation.evaluate.Goals as goal

pub nodes-preserved : goal.nodes-preserved
nodes-preserved c =
    let old = c.nodes.known.items in
    let new = c.value_at-value.result in
    let a = assigned c.args.inputs.now in
    let e = c.in_ok-push.ensures.items in
    let here : c.nodes.k < length c.args.graph.now = omega arith in
    let known = ap assigned c.deref.ensures.value in
    record {
      count = search rules;
      value = below_more (λ j. assigned c.push.new.self.items j ≡ values a c.args.graph.now j) c.nodes.k
          (λ j l. let m : j < length old = omega (arith, c.nodes.invariant.count) in
          ap (λ xs. assigned xs j) e ∙ get_or_append_left old (new ∷ []) false j m ∙ c.nodes.invariant.value j l)
          (ap (λ xs. assigned xs c.nodes.k) e ∙ ap (assigned (old ++ new ∷ [])) (sym c.nodes.invariant.count) ∙ get_or-append_seam old new [] false
          ∙ c.value_at-value.ensures
          ∙ values-more a (assigned c.deref.result.now) c.args.graph.now c.nodes.k c.node.result c.len-size.ensures.acyclic here c.node.ensures.value
          (λ j l. ap (λ xs. assigned xs j) c.deref.ensures.value ∙ c.nodes.invariant.value j l));
    }
