use Rattle.std.proofs.Common.{◌++◌, ◌∷◌, [], not, ap, sym, ◌∙◌, add-one}
use Rattle.frame_solver.specs.Firsts.{negation_of}
use Rattle.frame_solver.proofs.negating.negation.Goals as goal

pub bits-preserved : goal.bits-preserved
bits-preserved c =
    c.in_ok-push.ensures.items ∙ ap (λ xs. xs ++ record { var = c.bits.b; positive = not c.get.result } ∷ []) c.bits.invariant
    ∙ ap (λ v. negation_of c.args.values.now c.bits.b ++ record { var = c.bits.b; positive = not v } ∷ []) c.get.ensures
    ∙ ap (negation_of c.args.values.now) (sym (add-one c.bits.b))
