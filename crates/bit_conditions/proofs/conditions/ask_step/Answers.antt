-- What the items ask of the step is what they allow.
use Rattle.std.proofs.Common.{List, [], subst, sym}
use Rattle.smv_slots.specs.Slots.{slots_of}
use Rattle.smv_meaning.specs.Tables.{outcomes_of}
use Rattle.bit_clauses.specs.Asserted.{all_hold}
use Rattle.bit_outcomes.specs.declared.told.Told.{Told}
use Rattle.bit_outcomes.specs.Telling.{AllTold, TellsAll}
use Rattle.bit_outcomes.proofs.Kept.{all_told_kept}
use Rattle.bit_conditions.specs.Told.{inputs_under, state_under}
use Rattle.bit_conditions.proofs.Kept.{eithers_kept}
use Rattle.bit_conditions.proofs.OfStates.{step_told}
use Rattle.bit_conditions.proofs.conditions.ask_step.Goals as goal

pub ask_items-requires-clause-there : goal.ask_items-requires-clause-there
ask_items-requires-clause-there c =
    subst (AllTold c.told_step.new.graph) (sym c.as_slice-there.ensures) (all_told_kept c.args.graph.now c.told_step.new.graph c.in_ok-here.ensures.extends c.args.to.now.told c.requires.to.told_stand)

pub ask_items-requires-clause-stand : goal.ask_items-requires-clause-stand
ask_items-requires-clause-stand c = eithers_kept c.args.graph.now c.told_step.new.graph c.in_ok-here.ensures.extends c.args.asked.now.items c.requires.stand

pub returns-clause-holds : goal.returns-clause-holds
returns-clause-holds c = λ v h is are next.
    let typed = c.args.typed.now in
    let p = typed.scope.program in
    let to = c.args.to.now in
    let s = state_under p v c.args.from.now.bits in
    let u = inputs_under p v c.args.inputs.now.bits in
    let t = state_under p v to.bits in
    let there = c.as_slice-there.result.now in
    let here = c.as_slice.result.now in
    let before = c.in_ok-ask_items.ensures.extends.kept v h in
    let first = c.in_ok-here.ensures.extends.kept v before in
    step_told typed v here c.as_slice-2.result.now c.as_slice-2.ensures (all_hold v c.args.asked.now.items) (all_hold v c.ask_items.new.asked.items) there s u t is are next
    (subst (λ (ts : List Told). TellsAll v ts (outcomes_of (slots_of p) t [] [] typed.nodes)) (sym c.as_slice-there.ensures) (c.requires.to.told v first next))
    (subst (λ (ts : List Told). TellsAll v ts (outcomes_of (slots_of p) s u t typed.nodes)) (sym c.as_slice.ensures) (c.in_ok-here.ensures.told.told v before is are next))
    (λ ps os there here clear. c.in_ok-ask_items.ensures.holds v ps os h there here clear)
