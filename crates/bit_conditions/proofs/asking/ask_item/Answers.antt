-- The edge of the demand is asked.
use Rattle.std.proofs.Common.{◌∙◌, ◌&&◌, Bool, ap}
use Rattle.smv_meaning.specs.Tables.{outcome_at, target_at}
use Rattle.bit_clauses.specs.Asserted.{all_hold}
use Rattle.bit_conditions.specs.declared.demands.Demand.{Demand}
use Rattle.bit_conditions.specs.Demands.{is_clear, is_met}
use Rattle.bit_conditions.proofs.Kept.{eithers_kept}
use Rattle.bit_conditions.proofs.asking.ask_item.Goals as goal

pub ask-requires-clause-stand : goal.ask-requires-clause-stand
ask-requires-clause-stand c = eithers_kept c.args.graph.now c.demand_edge.new.graph c.in_ok-edge.ensures.extends c.args.asked.now.items c.requires.stand

pub returns-clause-holds : goal.returns-clause-holds
returns-clause-holds c = λ v ps os h there here clear.
    let x = target_at ps c.args.item.target in
    let e = outcome_at os c.args.item.value in
    c.in_ok-ask.ensures.holds v h
    ∙ ap (λ (b : Bool). all_hold v c.args.asked.now.items && b)
    (c.in_ok-edge.ensures.value v ps os h there here (ap (λ (d : Demand). is_clear d x e) c.demand_of.ensures ∙ clear) ∙ ap (λ (d : Demand). is_met d x e) c.demand_of.ensures)
