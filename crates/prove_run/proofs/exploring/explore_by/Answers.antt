use Rattle.std.proofs.Common.{Bool, List, length, ap, subst}
use Rattle.std.specs.Prelude.{ℕ, IfOk}
use Rattle.clause_core.specs.Systems.{TransitionSystem}
use Rattle.frame_core.specs.declared.parts.Lemma.{Lemma}
use Rattle.frame_history.specs.declared.entries.Limits.{Limits}
use Rattle.frame_book.specs.Book.{BookView}
use Rattle.frame_worker.specs.Exploring.{IsExplored}
use Rattle.prove_run.proofs.Closing.{starts}
use Rattle.prove_run.proofs.exploring.explore_by.Goals as goal

pub play_out-requires-clause-played : goal.play_out-requires-clause-played
play_out-requires-clause-played g c =
    let f = c.args.frames in
    starts f.systems c.args.limits f.lemmas c.in_ok-book.book c.in_ok-solver.solver g.B.Begun.before (g.Q.Purse.tickets c.args.purse.now)
    (g.Q.Purse.spent c.args.purse.now) c.in_ok-book.ensures c.in_ok-solver.ensures c.requires.begun c.holds.ensures.kept

pub returns-clause-explored : goal.returns-clause-explored
returns-clause-explored g c =
    let f = c.args.frames in
    let limits : Limits = c.args.limits in
    let start : BookView = c.in_ok-book.book in
    let is = c.in_ok-book.ensures in
    let old : List ℕ = g.Q.Purse.tickets c.args.purse.now in
    let new : List ℕ = g.Q.Purse.tickets c.play_out.new.purse in
    let over : Bool = g.Q.Purse.spent c.play_out.new.purse in
    let E : List TransitionSystem → Limits → List Lemma → List ℕ → Type 0 =
    λ systems at carried before. IfOk c.play_out.result (λ e. IsExplored systems at carried e.history.items e.frames (length before) (length new) over) in
    subst (λ (z : List TransitionSystem). E z limits f.lemmas old) (ap (λ (z : BookView). z.systems) is)
    (subst (λ (z : Limits). E start.systems z f.lemmas old) (ap (λ (z : BookView). z.limits) is)
    (subst (λ (z : List Lemma). E start.systems start.limits z old) (ap (λ (z : BookView). z.carried) is)
    (subst (λ (z : List ℕ). E start.systems start.limits start.carried z) c.requires.begun c.play_out.ensures.explored)))
