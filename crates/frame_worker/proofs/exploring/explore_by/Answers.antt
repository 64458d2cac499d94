use Rattle.std.proofs.Common.{◌≡◌, ◌∙◌, ◌<◌, List, length, subst, sym}
use Rattle.clause_core.specs.Systems.{TransitionSystem}
use Rattle.effort_purse.specs.Seats.{is_spent, tickets_of}
use Rattle.frame_core.specs.FrameLaw.{AreAlike}
use Rattle.frame_worker.proofs.Meetings.{told}
use Rattle.frame_worker.proofs.exploring.explore_by.Goals as goal

pub returns-clause-explored : goal.returns-clause-explored
returns-clause-explored g c =
    let left = c.play-seat.result in
    told g.J.Begun.systems g.J.Begun.limits g.J.Begun.carried c.in_ok-explored.explored left.front (length (tickets_of c.args.seat))
    (length (tickets_of left.seat)) (is_spent left.seat) c.in_ok-explored.ensures.explored c.play-seat.ensures.played

pub invariant_of-crew : goal.invariant_of-crew
invariant_of-crew g c =
    let same = c.systems-systems.ensures.value in
    let law = c.systems-systems.ensures.law in
    record {
      budget_is = c.requires.budget;
      begun = same ∙ sym c.requires.systems;
      some = subst (λ (systems : List TransitionSystem). 0 < length systems) (sym same) law.some;
      alike = subst AreAlike (sym same) law.alike;
    }
