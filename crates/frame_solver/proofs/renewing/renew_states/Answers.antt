use Rattle.std.proofs.Common.{refl, sym, ap, subst, ◌∙◌, arith}
use Rattle.frame_core.specs.FrameLaw.{system_at}
use Rattle.frame_solver.specs.Groups.{base, state_heads, clauses_of}
use Rattle.frame_solver.specs.declared.loading.Engine.{Engine}
use Rattle.frame_solver.specs.Engines.{IsLoaded}
use Rattle.frame_solver.proofs.Renewed.{fresh_loaded, nothing_known, same_known}
use Rattle.frame_solver.proofs.renewing.renew_states.Goals as goal

pub returns-in_err-sum-clause-known : goal.returns-in_err-sum-clause-known
returns-in_err-sum-clause-known c = same_known _ _ refl

pub returns-in_err-need-clause-known : goal.returns-in_err-need-clause-known
returns-in_err-need-clause-known c = same_known _ _ refl

pub returns-then-need-engine-clause-known : goal.returns-then-need-engine-clause-known
returns-then-need-engine-clause-known c = same_known _ _ refl

pub returns-in_err-fresh-clause-known : goal.returns-in_err-fresh-clause-known
returns-in_err-fresh-clause-known c = same_known _ _ refl

pub returns-clause-engine : goal.returns-clause-engine
returns-clause-engine c =
    let b = base (system_at c.args.systems.now 0) in
    let heads = (state_heads c.args.systems.now) in
    let clauses = clauses_of c.args.lemmas.now in
    subst (IsLoaded b heads clauses) (sym c.replace.ensures) (fresh_loaded b heads _ clauses c.in_ok-fresh.fresh c.in_ok-fresh.ensures)

pub returns-clause-room : goal.returns-clause-room
returns-clause-room c =
    let used = ap (λ (e : Engine). e.used) c.replace.ensures in
    omega (arith, used, c.in_ok-fresh.ensures.room)

pub returns-clause-known : goal.returns-clause-known
returns-clause-known c = nothing_known _ _ (ap (λ (e : Engine). e.solver.learned) c.replace.ensures ∙ c.in_ok-fresh.ensures.nothing)
