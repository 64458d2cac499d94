use Rattle.std.proofs.Common.{◌≡◌, ◌++◌, List, ◌∙◌, ap}
use Rattle.std.proofs.lemmas.Result.{on_ok_weaker}
use Rattle.clause_core.specs.declared.literal.Lit.{Lit}
use Rattle.sat_core.specs.Queries.{State}
use Rattle.frame_solver.specs.Guards.{behind}
use Rattle.frame_solver.specs.Groups.{init_group}
use Rattle.frame_solver.proofs.renewing.push_init.Goals as goal

pub returns : goal.returns
returns c =
    let s : State = c.args.solver.now in
    let t : State = c.push_group.new.solver in
    let grown : List (List Lit) → State = λ cs. record s { given = s.given ++ behind c.args.base cs } in
    on_ok_weaker {P = t ≡ grown c.in_ok-init.init} {Q = t ≡ grown (init_group c.args.system.now)} c.push_group.result
    (λ done. done ∙ ap grown c.in_ok-init.ensures.value) c.push_group.ensures.done
