-- Never, or decided.
use Rattle.std.proofs.Common.{◌∙◌, sym}
use Rattle.smv_resolve.specs.Items.{item_by}
use Rattle.bit_faults.proofs.Asked.{asked_tells, length-domains}
use Rattle.bit_faults.proofs.Deciding.{never_true}
use Rattle.bit_faults.proofs.OfSides.{domains_kept}
use Rattle.bit_faults.proofs.questions.question_of.Goals as goal

pub decided-requires-clause-inputs : goal.decided-requires-clause-inputs
decided-requires-clause-inputs c = c.in_ok-edge.ensures.extends.inputs c.args.named c.requires.inputs

pub decided-requires-clause-stand : goal.decided-requires-clause-stand
decided-requires-clause-stand c =
    (domains_kept c.args.graph.now c.fault_of_item.new.graph c.in_ok-edge.ensures.extends c.args.typed.now c.args.domains.now c.requires.domains).stand

pub decided-requires-clause-long : goal.decided-requires-clause-long
decided-requires-clause-long c =
    length-domains c.fault_of_item.new.graph c.args.typed.now.scope.program c.args.domains.now c.one_way.ensures.law
    (domains_kept c.args.graph.now c.fault_of_item.new.graph c.in_ok-edge.ensures.extends c.args.typed.now c.args.domains.now c.requires.domains)
    ∙ sym c.requires.named

pub returns-then-is_never-clause-question : goal.returns-then-is_never-clause-question
returns-then-is_never-clause-question c =
    let typed = c.args.typed.now in
    let h = c.fault_of_item.new.graph in
    never_true c.args.named h typed (item_by typed.nodes c.args.item.now) c.in_ok-edge.edge c.requires.named (c.in_ok-edge.ensures.extends.inputs c.args.named c.requires.inputs) c.one_way.ensures.law
    c.in_ok-edge.ensures.told (c.is_never.ensures c.if-is_never.true)

pub returns-in_ok-decided-clause-question : goal.returns-in_ok-decided-clause-question
returns-in_ok-decided-clause-question c =
    let typed = c.args.typed.now in
    let g = c.args.graph.now in
    let h = c.fault_of_item.new.graph in
    asked_tells c.args.named h typed c.args.domains.now (item_by typed.nodes c.args.item.now) c.in_ok-edge.edge c.in_ok-decided.decided c.requires.named
    (c.in_ok-edge.ensures.extends.inputs c.args.named c.requires.inputs) c.one_way.ensures.law
    (domains_kept g h c.in_ok-edge.ensures.extends typed c.args.domains.now c.requires.domains) c.in_ok-edge.ensures.told c.in_ok-decided.ensures
