-- One node more.
use Rattle.std.proofs.Common.{◌∙◌, ◌≤◌, List, Option, [], ◌∷◌, ◌++◌, length, map, sym, ap, arith}
use Rattle.std.proofs.lemmas.List.{take_all}
use Rattle.smv_tree.specs.declared.place.Place.{Place}
use Rattle.smv_value.specs.declared.value.FaultRule.{FaultRule}
use Rattle.smv_resolve.specs.Resolved.{parts_of}
use Rattle.smv_meaning.specs.Formulas.{formula_fault}
use Rattle.smv_meaning.proofs.FaultTables.{fault_next, table_none}
use Rattle.smv_meaning.proofs.item_faults.formula_faults.Goals as goal

pub loop-i-init : goal.loop-i-init
loop-i-init c = λ slots s u told. c.new-made.ensures.items ∙ table_none (formula_fault slots s u)

pub loop-i-preserved : goal.loop-i-preserved
loop-i-preserved c = λ slots s u told.
    c.in_ok-push.ensures.items
    ∙ ap (λ (l : List (Option (FaultRule × Place))). l ++ c.fault_by_node-fault.result ∷ []) (sym c.as_slice.ensures.value)
    ∙ fault_next slots s u c.args.here.now c.args.nodes.now c.loop-i.i _ c.as_slice.result.now c.fault_of.result c.fault_by_node-fault.result c.loop-i-test.true told
    (c.as_slice.ensures.value ∙ c.loop-i.invariant slots s u told) c.fault_of.ensures c.fault_by_node-fault.ensures

pub returns : goal.returns
returns c = λ slots s u told.
    let all : length c.args.nodes.now ≤ c.loop-i.i = omega arith in
    c.loop-i.invariant slots s u told ∙ ap (λ nodes. map (formula_fault slots s u) (parts_of nodes)) (take_all c.loop-i.i c.args.nodes.now all)
