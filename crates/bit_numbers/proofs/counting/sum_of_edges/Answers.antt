-- One edge more.
use Rattle.std.proofs.Common.{rules, arith, ◌+◌, ◌*◌, ◌%◌, ◌^◌, false, length, ap, ◌∙◌}
use Rattle.bit_graph.specs.declared.edge.Edge.{Edge}
use Rattle.bit_arith.specs.Number.{number_of}
use Rattle.bit_arith.proofs.Numbers.{AllStand-extends}
use Rattle.bit_values.proofs.Widths.{least_bits-le}
use Rattle.bit_numbers.proofs.OfCounts.{counted_integer, counted_more}
use Rattle.bit_numbers.proofs.counting.sum_of_edges.Goals as goal

pub overflow_add-width : goal.overflow_add-width
overflow_add-width c = omega (arith, least_bits-le (length c.args.edges.now + 1) 64 (omega arith), c.least_bits-width.ensures)

pub edges-preserved : goal.edges-preserved
edges-preserved c =
    let long = ap length c.deref.ensures.value ∙ c.edges.invariant.length in
    record {
      extends = search rules;
      edges_stand = AllStand-extends c.edges.graph c.add.new.graph c.args.edges.now c.in_ok-more.ensures.extends c.edges.invariant.edges_stand;
      stand = c.in_ok-more.ensures.stands;
      length = c.in_ok-more.ensures.length ∙ long;
      value = λ v h.
          let before = c.in_ok-more.ensures.extends.kept v h in
          let d : Edge = record { node = 0; negated = false } in
          counted_more v c.args.edges.now c.edges.sum.items c.in_ok-one.one.items c.in_ok-more.more.items c.edges.i (1 + c.least_bits-width.result) d (omega arith) (ap (λ n. 1 + n) c.least_bits-width.ensures)
          (c.edges.invariant.value v before) (c.in_ok-one.ensures.value v before)
          (c.in_ok-more.ensures.value v h
          ∙ (λ i. (number_of v (c.deref.ensures.value i) + number_of v (c.deref-in-edges.ensures.value i)) % 2 ^ (long i)));
    }

pub returns-clause-value : goal.returns-clause-value
returns-clause-value c = λ v h.
    counted_integer v c.args.edges.now c.edges.sum.items c.edges.i (1 + c.least_bits-width.result) (omega arith) (ap (λ n. 1 + n) c.least_bits-width.ensures) c.edges.invariant.length
    (c.edges.invariant.value v h)
