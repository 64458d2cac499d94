-- The fault of the last node.
use Rattle.std.proofs.Common.{◌≡◌, ◌∙◌, List, Option, map, ap}
use Rattle.smv_tree.specs.declared.place.Place.{Place}
use Rattle.smv_value.specs.declared.value.FaultRule.{FaultRule}
use Rattle.smv_resolve.specs.Resolved.{parts_of}
use Rattle.smv_meaning.specs.Formulas.{formula_fault}
use Rattle.smv_meaning.specs.Tables.{fault_at}
use Rattle.smv_meaning.proofs.FaultTables.{fault_of_part}
use Rattle.smv_meaning.proofs.item_faults.formula_fault.Goals as goal

pub returns : goal.returns
returns c =
    let nodes = c.args.nodes.now in
    let slots = c.args.slots.now in
    let s = c.args.s.now in
    let u = c.args.u.now in
    let told = c.as_slice.ensures.value ∙ c.in_ok-here.ensures in
    let all : c.as_slice-2.result.now ≡ map (formula_fault slots s u) (parts_of nodes) = c.as_slice-2.ensures.value ∙ c.in_ok-faults.ensures slots s u told in
    c.fault_at.ensures
    ∙ ap (λ (l : List (Option (FaultRule × Place))). fault_at l c.args.root) all
    ∙ fault_of_part slots s u (parts_of nodes) c.args.root
