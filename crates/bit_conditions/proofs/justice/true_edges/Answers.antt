-- One edge more.
use Rattle.std.proofs.Common.{◌∙◌, ◌<◌, ◌≤◌, ◌&&◌, ◌++◌, ◌∷◌, [], Bool, length, map, ap, arith, sym, subst}
use Rattle.std.proofs.lemmas.List.{map-append, take_all}
use Rattle.std.proofs.lemmas.List.Elements.{All-push}
use Rattle.smv_resolve.specs.declared.item.Item.{Item}
use Rattle.smv_meaning.specs.Runs.{is_given, is_true}
use Rattle.smv_meaning.specs.Tables.{outcome_at}
use Rattle.bit_arith.specs.Number.{AllStand}
use Rattle.bit_graph.specs.Meaning.{Stands, edge_value}
use Rattle.bit_outcomes.proofs.Kept.{all_told_kept, edge_kept, extends_trans}
use Rattle.bit_conditions.proofs.Kept.{edges_kept}
use Rattle.bit_conditions.proofs.OfItems.{each_of, map_more}
use Rattle.bit_conditions.proofs.justice.true_edges.Goals as goal

pub loop-item-preserved : goal.loop-item-preserved
loop-item-preserved c =
    let before = c.loop-item.invariant in
    let one = c.in_ok-true_where.ensures in
    let g = c.loop-item.graph in
    let k = c.true_where.new.graph in
    let i = c.loop-item.item-index in
    let items = c.args.items.now in
    let made = c.loop-item.edges.items in
    let e = c.in_ok-true_where.field-0 in
    let lt : i < length items = omega arith in
    record {
      extends = extends_trans c.args.graph.now g k before.extends one.extends;
      valid = edge_kept g k one.extends c.args.valid before.valid;
      here = all_told_kept g k one.extends c.args.told.now before.here;
      stand = subst (AllStand k) (sym c.in_ok-push.ensures.items) (All-push (Stands k) made e (edges_kept g k one.extends made before.stand) one.stands);
      told = λ v os h tells given.
          let f : Item → Bool = λ (x : Item). edge_value v c.args.valid && is_true (outcome_at os x.value) in
          let test : Item → Bool = λ (x : Item). is_given (outcome_at os x.value) in
          ap (map (edge_value v)) c.in_ok-push.ensures.items ∙ map-append (edge_value v) made (e ∷ [])
          ∙ ap (λ (b : Bool). map (edge_value v) made ++ b ∷ [])
          (one.value v os h tells (λ is. each_of test items i _ lt (given is)))
          ∙ map_more f items (map (edge_value v) made) i _ lt (before.told v os (one.extends.kept v h) tells given);
    }

pub returns-clause-told : goal.returns-clause-told
returns-clause-told c = λ v os h tells given.
    let all : length c.args.items.now ≤ c.loop-item.item-index = omega arith in
    c.loop-item.invariant.told v os h tells given
    ∙ ap (map (λ (x : Item). edge_value v c.args.valid && is_true (outcome_at os x.value))) (take_all c.loop-item.item-index c.args.items.now all)
