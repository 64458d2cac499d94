use Rattle.std.proofs.Common.{Bool, ℕ, List, ap, ◌∙◌, position, bytes_eq}
use Rattle.smv_scope.proofs.enumerated.numbered_symbols.Goals as goal

pub returns-clause-numbers : goal.returns-clause-numbers
returns-clause-numbers c = λ name.
    let is : List ℕ → Bool = λ symbol. bytes_eq name symbol in
    c.in_ok-numbers.ensures name ∙ ap (position is) (c.as_slice.ensures ∙ c.in_ok-all.ensures)
