-- One node more.
use Rattle.std.proofs.Common.{◌∙◌, ◌≤◌, List, [], ◌∷◌, ◌++◌, take, length, sym, ap, arith}
use Rattle.std.proofs.lemmas.List.{take_all}
use Rattle.smv_meaning.specs.declared.outcome.Evaluation.{Evaluation}
use Rattle.smv_meaning.specs.Tables.{outcomes_of}
use Rattle.smv_meaning.proofs.Tables.{outcomes_none, outcomes_next, outcomes_of-take}
use Rattle.smv_meaning.proofs.evaluation.outcomes_before.Goals as goal

pub loop-i-init : goal.loop-i-init
loop-i-init c = λ t later. c.new-made.ensures.items ∙ outcomes_none c.args.slots.now c.args.s.now c.args.u.now t

pub loop-i-preserved : goal.loop-i-preserved
loop-i-preserved c = λ t later.
    let slots = c.args.slots.now in
    let nodes = c.args.nodes.now in
    let within : c.loop-i.i ≤ length nodes = omega arith in
    c.in_ok-push.ensures.items
    ∙ ap (λ (l : List Evaluation). l ++ c.in_ok-outcome.outcome ∷ []) (sym c.as_slice.ensures.value)
    ∙ outcomes_next slots c.args.s.now c.args.u.now t nodes c.as_slice.result.now c.first.result.now c.loop-i.i _ c.in_ok-outcome.outcome c.loop-i-test.true
    (c.as_slice.ensures.value ∙ c.loop-i.invariant t later)
    (c.first.ensures ∙ ap (take c.loop-i.i) later ∙ outcomes_of-take slots t [] [] nodes c.loop-i.i within)
    c.in_ok-outcome.ensures

pub returns : goal.returns
returns c = λ t later.
    let all : length c.args.nodes.now ≤ c.loop-i.i = omega arith in
    c.loop-i.invariant t later ∙ ap (outcomes_of c.args.slots.now c.args.s.now c.args.u.now t) (take_all c.loop-i.i c.args.nodes.now all)
