-- One pair of bits more.
use Rattle.std.proofs.Common.{◌≤◌, ◌<◌, length, arith}
use Rattle.std.proofs.lemmas.List.{length-map}
use Rattle.bit_graph.specs.Meaning.{edge_value}
use Rattle.bit_arith.specs.Number.{values_of}
use Rattle.bit_clauses.specs.Asserted.{all_hold}
use Rattle.bit_conditions.proofs.OfBits.{same_done, same_more}
use Rattle.bit_conditions.proofs.keeping.ask_same_bits.Goals as goal

pub loop-i-preserved : goal.loop-i-preserved
loop-i-preserved c = record {
  stand = c.in_ok-ask_same.ensures.stand;
  holds = λ v h.
      let lt : c.loop-i.i < length c.args.a.now = omega arith in
      same_more v c.args.a.now c.args.b.now c.loop-i.i _ _ (all_hold v c.args.asked.now.items) (all_hold v c.loop-i.asked.items) (all_hold v c.ask_same.new.asked.items) lt c.requires.width
      (c.in_ok-ask_same.ensures.holds v h) (c.loop-i.invariant.holds v h);
}

pub returns-clause-holds : goal.returns-clause-holds
returns-clause-holds c = λ v h.
    let a = c.args.a.now in
    let all : length (values_of v a) ≤ c.loop-i.i = omega (arith, length-map a (edge_value v)) in
    same_done (values_of v a) (values_of v c.args.b.now) c.loop-i.i (all_hold v c.args.asked.now.items) (all_hold v c.loop-i.asked.items) all (c.loop-i.invariant.holds v h)
