-- One edge more.
use Rattle.std.proofs.Common.{rules, ◌∙◌, ◌≤◌, ◌&&◌, ℕ, [], ◌∷◌, ap, arith, get_or, length, map, subst, sym}
use Rattle.std.proofs.lemmas.List.{get_or_default, map-append, take_all}
use Rattle.std.proofs.lemmas.List.Elements.{All-push}
use Rattle.bit_arith.specs.Number.{AllStand}
use Rattle.bit_graph.specs.Meaning.{Stands, edge_value}
use Rattle.bit_states.proofs.Walking.{of_all}
use Rattle.smv_meaning.specs.Runs.{is_given, is_true}
use Rattle.smv_meaning.specs.Tables.{outcome_at}
use Rattle.bit_outcomes.proofs.Kept.{all_told_kept, edge_kept}
use Rattle.bit_conditions.proofs.Kept.{edges_kept}
use Rattle.bit_formula.proofs.OfStates.{truths_more}
use Rattle.bit_formula.proofs.states.atom_edges.Goals as goal

pub loop-atom-preserved : goal.loop-atom-preserved
loop-atom-preserved c =
    let g = c.loop-atom.graph in
    let h = c.atom_edge.new.graph in
    let told = c.args.told.now in
    let valid = c.args.valid in
    let atoms = c.args.atoms.now in
    let i = c.loop-atom.atom-index in
    let made = c.loop-atom.edges.items in
    let edge = c.in_ok-atom_edge.field-0 in
    let items = c.in_ok-push.ensures.items in
    let grown = c.in_ok-atom_edge.ensures.extends in
    let inv = c.loop-atom.invariant in
    record {
      extends = search rules;
      here = all_told_kept g h grown told inv.here;
      valid = edge_kept g h grown valid inv.valid;
      stand = subst (AllStand h) (sym items) (All-push (Stands h) made edge (edges_kept g h grown made inv.stand) c.in_ok-atom_edge.ensures.stands);
      value = λ v os holds known.
          truths_more (λ (a : ℕ). edge_value v valid && is_true (outcome_at os a)) atoms i 0 (map (edge_value v) made) (map (edge_value v) c.push.new.self.items) (edge_value v edge)
          c.loop-atom-test.true (inv.value v os (grown.kept v holds) known) (ap (map (edge_value v)) items ∙ map-append (edge_value v) made (edge ∷ []))
          (c.in_ok-atom_edge.ensures.value v os holds (λ on.
          ((known on).0, of_all (λ (a : ℕ). is_given (outcome_at os a)) atoms i (get_or atoms i 0) (known on).1 c.loop-atom-test.true (get_or_default atoms i 0 (get_or atoms i 0) c.loop-atom-test.true))));
    }

pub returns-clause-value : goal.returns-clause-value
returns-clause-value c = record {
  tells = λ v os holds known.
      let atoms = c.args.atoms.now in
      let end : length atoms ≤ c.loop-atom.atom-index = omega arith in
      c.loop-atom.invariant.value v os holds known
      ∙ ap (map (λ (a : ℕ). edge_value v c.args.valid && is_true (outcome_at os a))) (take_all c.loop-atom.atom-index atoms end);
}
