-- Where temporal formulas fault, by what is told of the nodes at the moment.
use Rattle.std.proofs.Common.{List, [], subst, sym}
use Rattle.smv_resolve.specs.declared.node.ExprNode.{ExprNode}
use Rattle.smv_resolve.specs.Resolved.{parts_of}
use Rattle.smv_slots.specs.Slots.{slots_of}
use Rattle.smv_meaning.specs.Tables.{outcomes_of}
use Rattle.bit_outcomes.specs.declared.told.Told.{Told}
use Rattle.bit_outcomes.specs.Telling.{AllTold, TellsAll}
use Rattle.bit_states.specs.Coding.{inputs_of, state_of}
use Rattle.bit_faults.specs.Formulas.{TellsFormulas}
use Rattle.bit_faults.proofs.OfSides.{moment_told, sides_kept}
use Rattle.bit_faults.proofs.valuation.formulas_at.Goals as goal

pub told_moment-requires-clause-state : goal.told_moment-requires-clause-state
told_moment-requires-clause-state c = c.requires.sides.from

pub told_moment-requires-clause-inputs : goal.told_moment-requires-clause-inputs
told_moment-requires-clause-inputs c = c.requires.sides.inputs

pub formula_edges-requires : goal.formula_edges-requires
formula_edges-requires c = subst (AllTold c.told_moment.new.graph) (sym c.as_slice-2.ensures) c.in_ok-moment.ensures.told.stand

pub returns-clause-told : goal.returns-clause-told
returns-clause-told c =
    let typed = c.args.typed.now in
    let p = typed.scope.program in
    let g = c.args.graph.now in
    let k = c.told_moment.new.graph in
    let sides = c.args.sides.now in
    let formulas = c.in_ok-formulas in
    let at_moment = sides_kept g k c.in_ok-moment.ensures.extends typed sides c.requires.sides in
    λ v consistent from given.
    let s = state_of p v in
    let u = inputs_of p v in
    let moment = moment_told k typed sides at_moment v c.in_ok-moment.moment c.in_ok-moment.ensures.told (formulas.ensures.extends.kept v consistent) from given in
    let told : TellsAll v c.as_slice-2.result.now (outcomes_of (slots_of p) s u [] c.as_slice.result.now) =
    subst (λ (ns : List ExprNode). TellsAll v c.as_slice-2.result.now (outcomes_of (slots_of p) s u [] ns)) (sym c.as_slice.ensures)
    (subst (λ (ts : List Told). TellsAll v ts (outcomes_of (slots_of p) s u [] typed.nodes)) (sym c.as_slice-2.ensures) moment) in
    subst (λ (ns : List ExprNode). TellsFormulas v (slots_of p) s u formulas.formulas (parts_of ns)) c.as_slice.ensures
    (formulas.ensures.told v (slots_of p) s u consistent told)
