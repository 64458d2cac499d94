use Rattle.std.proofs.Common.{Bool, ℕ, List, length, subst}
use Rattle.clause_core.specs.Systems.{TransitionSystem}
use Rattle.frame_core.specs.declared.parts.Lemma.{Lemma}
use Rattle.frame_history.specs.declared.entries.Limits.{Limits}
use Rattle.frame_book.specs.Book.{BookView}
use Rattle.frame_worker.specs.Exploring.{IsExplored}
use Rattle.prove_run.proofs.exploring.play_out.Goals as goal

pub returns-clause-explored : goal.returns-clause-explored
returns-clause-explored g c =
    let now : BookView = c.play.new.book in
    let new : List ℕ = g.Q.Purse.tickets c.play.new.purse in
    let over : Bool = g.Q.Purse.spent c.play.new.purse in
    let done = c.close.ensures.explored g.B.Begun.before new c.play.new.solver over c.in_ok-play.ensures.played in
    let E : List TransitionSystem → Limits → List Lemma → Type 0 =
    λ systems at carried. IsExplored systems at carried c.close.result.history.items c.close.result.frames (length g.B.Begun.before) (length new) over in
    subst (λ (z : List TransitionSystem). E z c.args.book.limits c.args.book.carried) c.play.ensures.systems
    (subst (λ (z : Limits). E now.systems z c.args.book.carried) c.play.ensures.limits
    (subst (λ (z : List Lemma). E now.systems now.limits z) c.play.ensures.carried done))
