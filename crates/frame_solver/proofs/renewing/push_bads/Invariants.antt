use Rattle.std.proofs.Common.{◌≡◌, ◌∷◌, take}
use Rattle.frame_core.specs.FrameLaw.{system_at}
use Rattle.frame_solver.specs.Guards.{HoldsGroups}
use Rattle.frame_solver.specs.Groups.{init_group, bad_groups}
use Rattle.frame_solver.proofs.renewing.push_bads.Given as goal

abbrev pub invariant-systems : goal.invariant-systems
invariant-systems l =
    (l.solver.vars ≡ l.fn.solver.vars) × (l.solver.learned ≡ l.fn.solver.learned)
    × HoldsGroups l.base (init_group (system_at l.systems 0) ∷ bad_groups (take l.j l.systems)) l.fn.solver.vars l.solver.given
