use Rattle.std.proofs.Common.{◌≡◌, ◌∙◌, Bool, true, [], length, sym, subst}
use Rattle.effort_purse.specs.declared.seat.Seat.{Seat}
use Rattle.effort_purse.specs.declared.shared.SharedPurse.{SharedPurse}
use Rattle.effort_purse.specs.Seats.{IsSeatOf, seats_of, shares_of, tickets_of}
use Rattle.prove_run.specs.Answers.{limits_of}
use Rattle.frame_worker.specs.Exploring.{IsExplored}
use Rattle.prove_run.proofs.Finished.{finished}
use Rattle.prove_run.proofs.together.answer_all.Goals as goal

pub returns : goal.returns
returns c = λ systems h.
    let effort = c.args.effort.now in
    let first : Seat = c.args.seat in
    let last : Seat = c.answers.new.purse.seat in
    let purse : SharedPurse = c.args.purse.now in
    let f = c.args.explored.frames in
    let history = c.args.explored.history.items in
    let told = c.in_ok-answers.ensures.answered in
    let kept = c.in_ok-answers.ensures.kept in
    let own : IsSeatOf purse last = subst (λ (p : SharedPurse). IsSeatOf p last) kept.purse c.in_ok-answers.ensures.ready in
    let all : shares_of last ≡ seats_of purse = kept.seat.shares ∙ c.requires.shares in
    let whole : told.0 ≡ true → length (tickets_of last) ≡ effort.conflicts = λ on. (own.whole all).spent (told.1 on) ∙ c.requires.budget in
    let E : Bool → Type 0 = λ late. IsExplored systems (limits_of effort) [] history f 0 (length (tickets_of first)) late in
    finished systems effort history f (tickets_of first) (tickets_of last) c.seen_spent-over.result told.0 c.in_ok-answers.answers.items
    (subst E (sym c.seen_spent-over.ensures) h) whole c.in_ok-answers.ensures.each_one told.2
