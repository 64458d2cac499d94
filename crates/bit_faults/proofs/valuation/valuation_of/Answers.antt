-- The outcomes of nodes there, and where temporal formulas fault.
use Rattle.std.proofs.Common.{subst, sym}
use Rattle.bit_conditions.specs.Told.{TellsNowhere}
use Rattle.bit_conditions.proofs.Kept.{tells_step_kept}
use Rattle.bit_faults.proofs.OfSides.{sides_kept}
use Rattle.bit_faults.proofs.valuation.valuation_of.Goals as goal

pub sides_of-requires-clause-nowhere : goal.sides_of-requires-clause-nowhere
sides_of-requires-clause-nowhere c = subst (TellsNowhere c.args.graph.now c.args.typed.now) (sym c.as_slice.ensures) (c.in_ok-nowhere.ensures c.args.graph.now)

pub formulas_of-requires-clause-nowhere : goal.formulas_of-requires-clause-nowhere
formulas_of-requires-clause-nowhere c =
    let h = c.told_step.new.graph in
    subst (TellsNowhere h c.args.typed.now) (sym c.as_slice-2.ensures) (c.in_ok-nowhere.ensures h)

pub formulas_of-requires-clause-sides : goal.formulas_of-requires-clause-sides
formulas_of-requires-clause-sides c =
    sides_kept c.sides_of.new.graph c.told_step.new.graph c.in_ok-step.ensures.extends c.args.typed.now c.in_ok-sides.sides c.in_ok-sides.ensures.told

pub returns-clause-told : goal.returns-clause-told
returns-clause-told c =
    let typed = c.args.typed.now in
    let g = c.sides_of.new.graph in
    let h = c.told_step.new.graph in
    let k = c.formulas_of.new.graph in
    let sides = c.in_ok-sides.sides in
    let step = c.in_ok-step.step in
    let formulas = c.in_ok-formulas.ensures in
    record {
      sides = sides_kept h k formulas.extends typed sides (sides_kept g h c.in_ok-step.ensures.extends typed sides c.in_ok-sides.ensures.told);
      step = tells_step_kept h k formulas.extends typed sides.from sides.inputs sides.to step c.in_ok-step.ensures.told;
      formulas_stand = formulas.stand;
      formulas = formulas.told;
    }
