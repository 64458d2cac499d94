-- One pair more.
use Rattle.std.proofs.Common.{◌≡◌, ◌∙◌, ℕ, ◌<◌, Bool, true, false, ◌&&◌, List, [], ◌∷◌, ◌++◌, ap, refl, zero, suc, arith, get_or, length}
use Rattle.std.specs.List.{list_all, All}
use Rattle.std.proofs.lemmas.List.Elements.{All-append}
use Rattle.std.proofs.lemmas.List.Folds.{list_all-append}
use Rattle.bit_graph.specs.declared.edge.GraphNode.{GraphNode}
use Rattle.bit_clauses.specs.declared.either.Either.{Either}
use Rattle.bit_clauses.specs.Asserted.{EitherStands, EithersStand, all_hold, holds}

and_true : (b : Bool) → (b && true) ≡ b
and_true true = refl
and_true false = refl

pub all_hold_more : (v : ℕ → Bool) (es : List Either) (e : Either) → all_hold v (es ++ e ∷ []) ≡ (all_hold v es && holds v e)
all_hold_more v es e = list_all-append (holds v) es (e ∷ []) ∙ ap (λ b. all_hold v es && b) (and_true (holds v e))

one_stands : (g : List GraphNode) (e : Either) → EitherStands g e → EithersStand g (e ∷ [])
one_stands g e stands zero d lt = stands
one_stands g e stands (suc k) d lt = absurd (omega (arith, lt))

pub eithers_more : (g : List GraphNode) (es : List Either) (e : Either) → EithersStand g es → EitherStands g e → EithersStand g (es ++ e ∷ [])
eithers_more g es e stand stands = All-append (EitherStands g) es (e ∷ []) stand (one_stands g e stands)
