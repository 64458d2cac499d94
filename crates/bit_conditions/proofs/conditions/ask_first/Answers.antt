-- What the items ask is what they allow.
use Rattle.std.proofs.Common.{List, [], subst, sym}
use Rattle.smv_slots.specs.Slots.{slots_of}
use Rattle.smv_meaning.specs.Tables.{outcomes_of}
use Rattle.bit_clauses.specs.Asserted.{all_hold}
use Rattle.bit_outcomes.specs.declared.told.Told.{Told}
use Rattle.bit_outcomes.specs.Telling.{TellsAll}
use Rattle.bit_conditions.specs.Told.{state_under}
use Rattle.bit_conditions.proofs.OfStates.{first_told}
use Rattle.bit_conditions.proofs.conditions.ask_first.Goals as goal

pub returns-clause-holds : goal.returns-clause-holds
returns-clause-holds c = λ v h is.
    let typed = c.args.typed.now in
    let p = typed.scope.program in
    let state = c.args.state.now in
    let s = state_under p v state.bits in
    let here = c.as_slice-here.result.now in
    let tells = c.requires.state.told v (c.in_ok-ask_items.ensures.extends.kept v h) is in
    first_told typed v here c.as_slice.result.now c.as_slice.ensures (all_hold v c.args.asked.now.items) (all_hold v c.ask_items.new.asked.items) s c.requires.state.inputs.given is
    c.requires.state.inputs.typed
    (subst (λ (ts : List Told). TellsAll v ts (outcomes_of (slots_of p) s [] [] typed.nodes)) (sym c.as_slice-here.ensures) tells)
    (λ ps os there here clear. c.in_ok-ask_items.ensures.holds v ps os h there here clear)
