use Rattle.std.proofs.Common.{◌≡◌, ℕ, refl, sym, ◌∙◌, ap, subst, arith, length}
use Rattle.std.proofs.lemmas.List.{length-map}
use Rattle.sat_core.specs.Queries.{State}
use Rattle.frame_core.specs.FrameLaw.{system_at}
use Rattle.frame_solver.specs.Guards.{HoldsGroups}
use Rattle.frame_solver.specs.Groups.{base, bad_groups, state_heads}
use Rattle.frame_solver.proofs.Renewed.{fresh_by}
use Rattle.frame_solver.proofs.renewing.fresh_states.Goals as goal

pub returns : goal.returns
returns c =
    let sys = system_at c.args.systems.now 0 in
    let heads = state_heads c.args.systems.now in
    let u : State = c.push_state_groups.new.solver in
    let done = c.in_ok-push_state_groups.ensures in
    let at : c.in_ok-base.base ≡ base sys = c.in_ok-base.ensures ∙ ap base c.system_of.ensures.value in
    let counted : length (bad_groups c.args.systems.now) ≡ length c.args.systems.now = simp length-map in
    let count : c.in_ok-heads.heads ≡ length heads = omega (arith, counted) in
    let B : ℕ → Type 0 = λ q. HoldsGroups q heads u.vars u.given in
    let V : ℕ → Type 0 = λ q. HoldsGroups c.in_ok-base.base heads q u.given in
    fresh_by (base sys) heads c.args.lemmas _ u at count refl (omega (arith, at, count, c.in_ok-used.ensures, c.in_ok-sum.ensures, c.in_ok-sum-2.ensures)) refl
    (done.vars ∙ ap (λ (s : State). s.vars) c.in_ok-solver.ensures) (done.learned ∙ ap (λ (s : State). s.learned) c.in_ok-solver.ensures)
    (subst B at (subst V (sym done.vars) done.all))
