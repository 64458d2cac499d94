-- As the table of the formulas tells.
use Rattle.std.proofs.Common.{◌≡◌, ◌∙◌, List, get_or, subst, sym, ap}
use Rattle.std.specs.Prelude.{None, Option, Some}
use Rattle.std.specs.Option.{is_some}
use Rattle.bit_graph.specs.declared.edge.Edge.{Edge}
use Rattle.smv_resolve.specs.Items.{item_by}
use Rattle.smv_resolve.specs.Resolved.{part_at, parts_of}
use Rattle.smv_slots.specs.Slots.{slots_of}
use Rattle.smv_slots.specs.Slots.{types_of}
use Rattle.bit_states.specs.Coding.{inputs_of, next_of, state_of}
use Rattle.bit_faults.specs.Formulas.{StandsIfAny, TellsFormula}
use Rattle.bit_faults.proofs.OfFormulas.{stands_at}
use Rattle.bit_faults.proofs.OfItems.{formula_known, of_types, paths_fault}
use Rattle.bit_faults.proofs.faults.formula_edge.Goals as goal

pub returns-in-Some-clause-stands : goal.returns-in-Some-clause-stands
returns-in-Some-clause-stands c =
    let k = c.args.item.now.value in
    let x = c.args.valuation.now in
    let at : get_or x.formulas k None ≡ Some c.in-Some.edge = ap (λ (es : List (Option Edge)). get_or es k None) (sym c.as_slice.ensures) ∙ sym c.edge_at.ensures ∙ c.in-Some.is in
    subst (StandsIfAny c.args.graph.now) at (stands_at c.args.graph.now x.formulas k c.requires.valuation.formulas_stand)

pub returns-in-Some-clause-told : goal.returns-in-Some-clause-told
returns-in-Some-clause-told c = λ v consistent all.
    let typed = c.args.typed.now in
    let p = typed.scope.program in
    let k = c.args.item.now.value in
    let x = c.args.valuation.now in
    let item = item_by typed.nodes c.args.item.now in
    let slots = slots_of p in
    let s = state_of p v in
    let u = inputs_of p v in
    let t = next_of p v in
    let is = of_types p v all in
    let at : get_or x.formulas k None ≡ Some c.in-Some.edge = ap (λ (es : List (Option Edge)). get_or es k None) (sym c.as_slice.ensures) ∙ sym c.edge_at.ensures ∙ c.in-Some.is in
    let tells = c.requires.valuation.formulas v consistent is.from is.inputs in
    let here : TellsFormula v slots s u (Some c.in-Some.edge) (part_at (parts_of typed.nodes) k) = subst (λ (e : Option Edge). TellsFormula v slots s u e (part_at (parts_of typed.nodes) k)) at (tells.each k) in
    here (formula_known slots s u t item c.requires.paths (c.requires.known s u t is.from is.inputs is.to)) ∙ sym (ap is_some (paths_fault slots s u t (types_of p) item c.requires.paths))
