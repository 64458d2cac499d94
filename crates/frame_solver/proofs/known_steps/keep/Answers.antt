use Rattle.std.proofs.Common.{◌≡◌, ◌++◌, ◌∷◌, [], All, sym, subst}
use Rattle.std.proofs.lemmas.List.Elements.{All-push}
use Rattle.frame_solver.specs.declared.known_steps.KnownStep.{KnownStep}
use Rattle.frame_solver.specs.Recalling.{IsKnownStep}
use Rattle.frame_solver.proofs.Recalled.{All-removed}
use Rattle.frame_solver.proofs.known_steps.keep.Goals as goal
use Rattle.frame_solver.proofs.known_steps.keep.Goals.{then-len-ge-MOST, else-len-ge-MOST}

pub returns : goal.returns
returns c sys known own =
    let P : KnownStep → Type 0 = IsKnownStep sys in
    let is : c.push.new.self.items ≡ c.if-len-ge-MOST.steps.items ++ c.args.step ∷ [] = c.in_ok-push.ensures.items in
    let before : All P c.if-len-ge-MOST.steps.items =
    elim c.if-len-ge-MOST.branch [
      | then-len-ge-MOST w ↦
          let e : c.if-len-ge-MOST.steps.items ≡ w.remove.new.self.items = cc w.steps-is in
          subst (All P) (sym e) (subst (All P) (sym w.remove.ensures.items) (All-removed P c.args.steps.now.items 0 known))
      | else-len-ge-MOST w ↦
          let e : c.if-len-ge-MOST.steps.items ≡ c.args.steps.now.items = cc w.steps-is in
          subst (All P) (sym e) known
    ] in
    subst (All P) (sym is) (All-push P c.if-len-ge-MOST.steps.items c.args.step before own)
