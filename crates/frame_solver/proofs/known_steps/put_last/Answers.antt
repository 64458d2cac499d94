use Rattle.std.proofs.Common.{◌≡◌, ◌++◌, ◌∷◌, [], All, sym, subst}
use Rattle.std.proofs.lemmas.List.Elements.{All-push}
use Rattle.frame_solver.specs.declared.known_steps.KnownStep.{KnownStep}
use Rattle.frame_solver.specs.Recalling.{IsKnownStep}
use Rattle.frame_solver.proofs.Recalled.{All-removed}
use Rattle.frame_solver.proofs.known_steps.put_last.Goals as goal

pub returns : goal.returns
returns c sys known =
    let P : KnownStep → Type 0 = IsKnownStep sys in
    let steps = c.args.steps.now.items in
    let moved : P c.remove-step.result = subst P (sym c.remove-step.ensures.value) (known c.args.k c.remove-step.result c.requires) in
    let is : c.push.new.self.items ≡ c.remove-step.new.self.items ++ c.remove-step.result ∷ [] = c.in_ok-push.ensures.items in
    subst (All P) (sym is) (All-push P c.remove-step.new.self.items c.remove-step.result
    (subst (All P) (sym c.remove-step.ensures.items) (All-removed P steps c.args.k known)) moved)
