use Rattle.std.proofs.Common.{refl, sym, ◌∙◌, subst}
use Rattle.std.proofs.lemmas.Result.{IfOk-weaker}
use Rattle.clause_core.specs.Systems.{IsSystem}
use Rattle.ltl_meaning.specs.Temporal.{formula_of}
use Rattle.ltl_meaning.specs.Unfolded.{unfolded}
use Rattle.ltl_monitor.specs.declared.layout.Space.{Space}
use Rattle.ltl_monitor.specs.States.{IsMonitor}
use Rattle.ltl_monitor.specs.Drafting.{all_moved}
use Rattle.ltl_monitor.proofs.Whole.{is_system, is_monitor, assembled_same, room_same, room}
use Rattle.ltl_monitor.proofs.monitoring.monitored.Goals as goal

pub with_draft-requires-clause-valid : goal.with_draft-requires-clause-valid
with_draft-requires-clause-valid c =
    let sys = c.args.system.now in
    let f = unfolded (formula_of c.args.formula.now.root) in
    let p = c.in_ok-layout.layout in
    subst IsSystem
    (sym (assembled_same sys f c.args.atoms.now p c.in_ok-nodes.nodes (all_moved p Space.System sys.bad) (all_moved p Space.System sys.good) c.in_ok-draft.draft
    c.in_ok-nodes.ensures c.in_ok-layout.ensures refl refl c.in_ok-draft.ensures))
    (is_system sys f c.args.atoms.now c.law.ensures c.requires.numbers c.requires.within c.requires.given)

pub with_draft-requires-clause-room : goal.with_draft-requires-clause-room
with_draft-requires-clause-room c =
    let f = unfolded (formula_of c.args.formula.now.root) in
    room_same c.args.system.now f c.args.atoms.now c.in_ok-layout.layout c.in_ok-nodes.nodes c.in_ok-draft.draft
    c.in_ok-nodes.ensures c.in_ok-layout.ensures c.in_ok-draft.ensures
    (room c.args.system.now f c.args.atoms.now c.law.ensures c.requires.numbers c.requires.within c.requires.given)

pub returns : goal.returns
returns c =
    let sys = c.args.system.now in
    let f = unfolded (formula_of c.args.formula.now.root) in
    let p = c.in_ok-layout.layout in
    IfOk-weaker c.with_draft.result _ _
    (λ m e. subst (IsMonitor sys f c.args.atoms.now)
    (sym
    (e
    ∙ assembled_same sys f c.args.atoms.now p c.in_ok-nodes.nodes (all_moved p Space.System sys.bad) (all_moved p Space.System sys.good) c.in_ok-draft.draft
    c.in_ok-nodes.ensures c.in_ok-layout.ensures refl refl c.in_ok-draft.ensures))
    (is_monitor sys f c.args.atoms.now c.law.ensures c.requires.numbers c.requires.within c.requires.given))
    c.with_draft.ensures
