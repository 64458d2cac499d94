-- One mark more.
use Rattle.std.proofs.Common.{ℕ, List, [], ◌∷◌, ◌++◌, ap, ◌∙◌}
use Rattle.std.proofs.lemmas.List.{replicate-append-replicate}
use Rattle.value_texts.proofs.symbols.marks.Goals as goal

pub loop-k-preserved : goal.loop-k-preserved
loop-k-preserved c = c.in_ok-push_str.ensures.bytes ∙ ap (λ (t : List ℕ). t ++ 36 ∷ []) c.loop-k.invariant ∙ replicate-append-replicate c.loop-k.k 1 36
