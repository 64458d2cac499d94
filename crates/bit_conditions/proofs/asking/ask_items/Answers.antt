-- One item more.
use Rattle.std.proofs.Common.{◌∙◌, ◌<◌, ◌≤◌, ◌&&◌, Bool, List, length, ap, arith}
use Rattle.std.proofs.lemmas.List.{take_all}
use Rattle.smv_resolve.specs.declared.item.Item.{Item}
use Rattle.smv_meaning.specs.Tables.{outcome_at, target_at}
use Rattle.bit_clauses.specs.Asserted.{all_hold}
use Rattle.bit_outcomes.proofs.Kept.{all_told_kept, extends_refl, extends_trans}
use Rattle.bit_conditions.specs.Demands.{all_met, demand_of, is_clear, is_met}
use Rattle.bit_conditions.proofs.OfItems.{all_more, each_of, and_true_is}
use Rattle.bit_conditions.proofs.asking.ask_items.Goals as goal

pub loop-item-init : goal.loop-item-init
loop-item-init c = record {
  extends = extends_refl c.args.graph.now;
  there = c.requires.there;
  here = c.requires.here;
  stand = c.requires.stand;
  holds = λ v ps os h there here clear. and_true_is (all_hold v c.args.asked.now.items);
}

pub loop-item-preserved : goal.loop-item-preserved
loop-item-preserved c =
    let before = c.loop-item.invariant in
    let one = c.in_ok-ask_item.ensures in
    let g = c.loop-item.graph in
    let k = c.ask_item.new.graph in
    let i = c.loop-item.item-index in
    let items = c.args.items.now in
    let when = c.args.when in
    let lt : i < length items = omega arith in
    record {
      extends = extends_trans c.args.graph.now g k before.extends one.extends;
      there = all_told_kept g k one.extends c.args.there.now before.there;
      here = all_told_kept g k one.extends c.args.here.now before.here;
      stand = one.stand;
      holds = λ v ps os h there here clear.
          let met : Item → Bool = λ (x : Item). is_met (demand_of when x.kind) (target_at ps x.target) (outcome_at os x.value) in
          let test : Item → Bool = λ (x : Item). is_clear (demand_of when x.kind) (target_at ps x.target) (outcome_at os x.value) in
          all_more met items i _ (all_hold v c.args.asked.now.items) (all_hold v c.loop-item.asked.items) (all_hold v c.ask_item.new.asked.items) lt
          (before.holds v ps os (one.extends.kept v h) there here clear)
          (one.holds v ps os h there here (each_of test items i _ lt clear));
    }

pub returns-clause-holds : goal.returns-clause-holds
returns-clause-holds c = λ v ps os h there here clear.
    let all : length c.args.items.now ≤ c.loop-item.item-index = omega arith in
    c.loop-item.invariant.holds v ps os h there here clear
    ∙ ap (λ (items : List Item). all_hold v c.args.asked.now.items && all_met c.args.when ps os items) (take_all c.loop-item.item-index c.args.items.now all)
