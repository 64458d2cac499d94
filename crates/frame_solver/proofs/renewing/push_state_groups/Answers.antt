use Rattle.std.proofs.Common.{◌≡◌, ◌++◌, ℕ, sym, ◌∙◌, ap, subst}
use Rattle.clause_core.specs.Systems.{TransitionSystem}
use Rattle.sat_core.specs.Queries.{State}
use Rattle.frame_core.specs.FrameLaw.{system_at}
use Rattle.frame_solver.specs.Guards.{behind, HoldsGroups}
use Rattle.frame_solver.specs.Groups.{init_group, state_heads}
use Rattle.frame_solver.proofs.Renewed.{fresh_init}
use Rattle.frame_solver.proofs.renewing.push_state_groups.Goals as goal

pub push_bads-requires-clause-init : goal.push_bads-requires-clause-init
push_bads-requires-clause-init c =
    let sys = system_at c.args.systems.now 0 in
    let s : State = c.args.solver.now in
    let t : State = c.push_init.new.solver in
    let init : t ≡ record s { given = s.given ++ behind c.args.base (init_group sys) } =
    c.in_ok-push_init.ensures ∙ ap (λ (q : TransitionSystem). record s { given = s.given ++ behind c.args.base (init_group q) }) c.system_of-system.ensures.value in
    fresh_init sys c.args.base s t c.requires.empty init

pub returns-clause-vars : goal.returns-clause-vars
returns-clause-vars c = ap (λ (q : State). q.vars) c.prefer_first.ensures ∙ c.in_ok-push_bads.ensures.vars ∙ ap (λ (q : State). q.vars) c.in_ok-push_init.ensures

pub returns-clause-learned : goal.returns-clause-learned
returns-clause-learned c =
    ap (λ (q : State). q.learned) c.prefer_first.ensures ∙ c.in_ok-push_bads.ensures.learned ∙ ap (λ (q : State). q.learned) c.in_ok-push_init.ensures

pub returns-clause-all : goal.returns-clause-all
returns-clause-all c =
    let heads = state_heads c.args.systems.now in
    let s : State = c.args.solver.now in
    let G : State → Type 0 = λ q. HoldsGroups c.args.base heads s.vars q.given in
    let V : ℕ → Type 0 = λ q. HoldsGroups c.args.base heads q c.push_bads.new.solver.given in
    subst G (sym c.prefer_first.ensures) (subst V (ap (λ (q : State). q.vars) c.in_ok-push_init.ensures) c.in_ok-push_bads.ensures.all)
