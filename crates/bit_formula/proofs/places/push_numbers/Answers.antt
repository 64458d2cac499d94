-- One number more.
use Rattle.std.proofs.Common.{◌∙◌, ◌+◌, ◌++◌, ℕ, List, [], ◌∷◌, ap, append_assoc, refl}
use Rattle.std.specs.List.{range_with_len}
use Rattle.bit_states.proofs.Walking.{range_more}
use Rattle.bit_formula.proofs.places.push_numbers.Goals as goal

pub loop-n-preserved : goal.loop-n-preserved
loop-n-preserved c =
    let made = c.args.made.now.items in
    let start = c.args.start in
    let n = c.loop-n.n in
    c.in_ok-push.ensures.items ∙ ap (λ (l : List ℕ). l ++ (start + n) ∷ []) c.loop-n.invariant ∙ append_assoc made (range_with_len start n) ((start + n) ∷ [])
    ∙ ap (λ (l : List ℕ). made ++ l) (range_more start n (range_with_len start n) (start + n) refl refl)
