use Rattle.std.proofs.Common.{◌≡◌, ◌+◌, ◌++◌, [], ◌∷◌, ℕ, sym, ◌∙◌, ap, subst, arith}
use Rattle.clause_core.specs.Systems.{TransitionSystem}
use Rattle.sat_core.specs.Queries.{State}
use Rattle.frame_core.specs.FrameLaw.{system_at}
use Rattle.frame_solver.specs.Guards.{behind, HoldsGroups}
use Rattle.frame_solver.specs.Groups.{init_group, step_heads}
use Rattle.frame_solver.proofs.Loaded.{holds_more}
use Rattle.frame_solver.proofs.Renewed.{fresh_init}
use Rattle.frame_solver.proofs.renewing.push_step_groups.Goals as goal

pub returns-clause-vars : goal.returns-clause-vars
returns-clause-vars c = ap (λ (q : State). q.vars) (c.prefer_first.ensures ∙ c.in_ok-push_group.ensures.done) ∙ ap (λ (q : State). q.vars) c.in_ok-push_init.ensures

pub returns-clause-learned : goal.returns-clause-learned
returns-clause-learned c =
    ap (λ (q : State). q.learned) (c.prefer_first.ensures ∙ c.in_ok-push_group.ensures.done) ∙ ap (λ (q : State). q.learned) c.in_ok-push_init.ensures

pub returns-clause-all : goal.returns-clause-all
returns-clause-all c =
    let sys = system_at c.args.systems.now 0 in
    let b = c.args.base in
    let heads = step_heads sys in
    let s : State = c.args.solver.now in
    let t : State = c.push_init.new.solver in
    let u : State = c.push_group.new.solver in
    let init : t ≡ record s { given = s.given ++ behind b (init_group sys) } =
    c.in_ok-push_init.ensures ∙ ap (λ (q : TransitionSystem). record s { given = s.given ++ behind b (init_group q) }) c.system_of-system.ensures.value in
    let start = fresh_init sys b s t c.requires.empty init in
    let step : c.step.result.now ≡ sys.step = c.step.ensures ∙ ap (λ (q : TransitionSystem). q.step) c.system_of-system.ensures.value in
    let given : u.given ≡ t.given ++ behind (b + 1) sys.step = ap (λ (q : State). q.given) c.in_ok-push_group.ensures.done ∙ ap (λ cs. t.given ++ behind (b + 1) cs) step in
    let G : State → Type 0 = λ q. HoldsGroups b heads s.vars q.given in
    let V : ℕ → Type 0 = λ q. HoldsGroups b heads q u.given in
    subst G (sym c.prefer_first.ensures)
    (subst V (ap (λ (q : State). q.vars) init) (holds_more b (init_group sys ∷ []) t.vars (b + 1) sys.step t.given u.given start (omega arith) given))
