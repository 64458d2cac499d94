-- The edge that was made, negated where the other is.
use Rattle.std.proofs.Common.{◌≡◌, ◌∙◌, refl, sym, ap, subst}
use Rattle.std.specs.Prelude.{Option, Some}
use Rattle.std.specs.Option.{option_copied}
use Rattle.bit_graph.specs.declared.edge.Edge.{Edge}
use Rattle.bit_graph.specs.Values.{values}
use Rattle.bit_faults.specs.Cones.{Takes, place}
use Rattle.bit_faults.proofs.Copying.{negated_copy, xor_is}
use Rattle.bit_faults.proofs.cones.taken.Goals as goal

pub returns-in-Some : goal.returns-in-Some
returns-in-Some c = λ n g is.
    let x = c.args.cone.now in
    let e = c.args.edge in
    let made = c.in-Some.copy.now in
    let there : place x e.node ≡ Some made = sym c.get.ensures.value ∙ ap option_copied c.in-Some.is in
    let copy = subst (λ (o : Option Edge). Takes x.graph x.read.items o (λ a. values a g e.node)) there (is.taken e.node) in
    negated_copy x.graph x.read.items made _ e.negated (λ a. values a g e.node) refl (xor_is made.negated e.negated) copy
