use Rattle.std.proofs.Common.{List, Option, None, ◌∷◌, [], ◌++◌, ap, ◌∙◌}
use Rattle.std.proofs.lemmas.List.{replicate_more}
use Rattle.lasso_search.specs.Lassos.{Lasso}
use Rattle.lasso_search.proofs.book.LassoBook.new.Goals as goal

pub loop-preserved : goal.loop-preserved
loop-preserved c =
    c.in_ok-push.ensures.items ∙ ap (λ (xs : List (Option (Option Lasso))). xs ++ None ∷ []) c.loop.invariant ∙ replicate_more c.loop.counter None
