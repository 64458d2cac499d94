use Rattle.std.proofs.Common.{refl, sym, subst}
use Rattle.std.proofs.lemmas.List.Elements.{All-contains_itself}
use Rattle.frame_core.specs.Facts.{ProvedClause}
use Rattle.frame_book.specs.declared.claim.ClaimOutcome.TheVariants.{Proved}
use Rattle.frame_claims.specs.Asking.{IsSmaller}
use Rattle.frame_claims.proofs.asking.smaller.Goals as goal

pub returns-in-Spent-clause-answer : goal.returns-in-Spent-clause-answer
returns-in-Spent-clause-answer g c =
    let p : ProvedClause = c.args.proved in
    let itself : IsSmaller c.args.solver.now p (Proved p) = (refl, refl, All-contains_itself p.clause, c.requires.stand) in
    subst (λ (q : ProvedClause). IsSmaller c.args.solver.now p (Proved q)) (sym c.in-Spent.ensures.found.0) itself
