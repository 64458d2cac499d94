-- One node more.
use Rattle.std.proofs.Common.{ℕ, ◌<◌, List, length, sym, subst}
use Rattle.std.specs.Prelude.{All, Option}
use Rattle.std.proofs.lemmas.List.Elements.{All-push}
use Rattle.bit_graph.specs.declared.edge.Edge.{Edge}
use Rattle.bit_graph.specs.Values.{values}
use Rattle.bit_faults.specs.Cones.{Takes, place}
use Rattle.bit_faults.proofs.Copying.{takes_put}
use Rattle.bit_faults.proofs.cones.take_next.Goals as goal

pub returns-in_ok-insert-in-Some-clause-copies : goal.returns-in_ok-insert-in-Some-clause-copies
returns-in_ok-insert-in-Some-clause-copies c =
    let g = c.args.graph.now in
    let k = c.args.node in
    let x = c.copy_of.new.cone in
    let before = c.in_ok-copy.ensures.copies in
    let copy = subst (λ (o : Option Edge). Takes x.graph x.read.items o (λ a. values a g k)) c.in-Some.is c.in_ok-copy.ensures.taken in
    record {
      inputs = before.inputs;
      within = before.within;
      taken = λ q.
          subst (λ (o : Option Edge). Takes x.graph x.read.items o (λ a. values a g q)) (sym (c.in_ok-insert-in-Some.ensures.updates.0 q))
          (takes_put x.graph x.read.items (λ i a. values a g i) k q c.in-Some.copy (place x q) copy (before.taken q));
    }

pub returns-in_ok-push_operands-in-None-clause-rest : goal.returns-in_ok-push_operands-in-None-clause-rest
returns-in_ok-push_operands-in-None-clause-rest c =
    let n = length c.args.graph.now in
    c.in_ok-push_operands-in-None.ensures n c.args.node c.node.ensures.below c.requires.node
    (subst (λ (ks : List ℕ). All (λ k. k < n) ks) (sym c.in_ok-push-in-None.ensures.items) (All-push (λ (k : ℕ). k < n) c.args.rest.now.items c.args.node c.requires.rest c.requires.node))
