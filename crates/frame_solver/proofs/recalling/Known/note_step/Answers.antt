use Rattle.std.proofs.Common.{◌∙◌, Bool, List, sym, subst}
use Rattle.clause_core.specs.Systems.{TransitionSystem}
use Rattle.frame_solver.specs.Recalling.{IsKnownStep}
use Rattle.frame_solver.proofs.recalling.Known.note_step.Goals as goal

pub invariant_of-self : goal.invariant_of-self
invariant_of-self c =
    let sys = c.self.inside.system.now in
    let S : TransitionSystem → Type 0 = λ s. IsKnownStep s record { values = c.in-Leaves.values; first = c.args.first } in
    let V : List Bool → Type 0 = λ vs. IsKnownStep sys record { values = vs; first = c.args.first } in
    let known = subst V (sym (c.in_ok-values.ensures ∙ c.as_slice.ensures)) (subst S (sym c.self.view_is) (rw c.in-Leaves.is at c.requires)) in
    record { fixed = c.self.invariant.fixed; first = c.self.invariant.first; steps = c.keep.ensures sys c.self.invariant.steps known }

pub invariant_of-self-in_err-keep : goal.invariant_of-self-in_err-keep
invariant_of-self-in_err-keep c =
    let sys = c.self.inside.system.now in
    let S : TransitionSystem → Type 0 = λ s. IsKnownStep s record { values = c.in-Leaves.values; first = c.args.first } in
    let V : List Bool → Type 0 = λ vs. IsKnownStep sys record { values = vs; first = c.args.first } in
    let known = subst V (sym (c.in_ok-values.ensures ∙ c.as_slice.ensures)) (subst S (sym c.self.view_is) (rw c.in-Leaves.is at c.requires)) in
    record { fixed = c.self.invariant.fixed; first = c.self.invariant.first; steps = c.keep.ensures sys c.self.invariant.steps known }
