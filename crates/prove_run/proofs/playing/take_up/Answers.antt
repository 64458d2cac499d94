use Rattle.std.proofs.Common.{ℕ, Bool, List, subst}
use Rattle.prove_run.proofs.Results.{on_ok_both}
use Rattle.clause_core.specs.Systems.{TransitionSystem}
use Rattle.frame_book.specs.Book.{IsBook}
use Rattle.frame_book.specs.Outcomes.{IsOutcomeOf}
use Rattle.prove_run.specs.Playing.{IsPlayed, IsSettled}
use Rattle.prove_run.proofs.Going.{taken_out, taken_same, went_on}
use Rattle.prove_run.proofs.playing.take_up.Goals as goal

pub settle-requires-clause-out : goal.settle-requires-clause-out
settle-requires-clause-out g c =
    taken_out g.B.Begun.before c.args.book.now c.args.claim c.args.solver.now (g.Q.Purse.tickets c.args.purse.now) (g.Q.Purse.spent c.args.purse.now) c.requires.taken

pub settle-requires-clause-outcome : goal.settle-requires-clause-outcome
settle-requires-clause-outcome g c =
    let v = c.args.claim in
    let same = taken_same g.B.Begun.before c.args.book.now v c.args.solver.now (g.Q.Purse.tickets c.args.purse.now) (g.Q.Purse.spent c.args.purse.now) c.requires.taken in
    subst (λ (z : List TransitionSystem). IsOutcomeOf z v v.subject c.in-Ok.outcome) same c.in-Ok.ensures.answer.of

pub returns-in-Ok-clause-played : goal.returns-in-Ok-clause-played
returns-in-Ok-clause-played g c =
    let b = c.args.book.now in
    let v = c.args.claim in
    let o = c.in-Ok.outcome in
    let now = c.settle.new.book in
    let w = c.ask_newest.new.solver in
    let x : List ℕ = g.Q.Purse.tickets c.args.purse.now in
    let y : List ℕ = g.Q.Purse.tickets c.ask_newest.new.purse in
    let over : Bool = g.Q.Purse.spent c.args.purse.now in
    let later : Bool = g.Q.Purse.spent c.ask_newest.new.purse in
    on_ok_both c.settle.result (IsSettled b v o now) (IsBook now) (IsPlayed g.B.Begun.before now w y later)
    (λ settled book. went_on g.B.Begun.before b now v c.args.solver.now w x y over later o c.requires.taken c.in-Ok.ensures.answer c.in-Ok.ensures.pays
    c.ask_newest.ensures.systems c.in-Ok.ensures.lemmas settled book)
    c.settle.ensures.settled c.settle.ensures.kept
