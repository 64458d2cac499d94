use Rattle.std.proofs.Common.{Option, sym, subst}
use Rattle.std.specs.Prelude.{IfSome}
use Rattle.effort_purse.specs.declared.shared.SharedPurse.{SharedPurse}
use Rattle.effort_purse.specs.Seats.{IsSeatOf}
use Rattle.frame_book.specs.declared.claim.ClaimOutcome.{ClaimOutcome}
use Rattle.frame_book.specs.Outcomes.{IsOutcomeOf}
use Rattle.frame_history.specs.History.{start}
use Rattle.frame_worker.specs.Working.{hand}
use Rattle.frame_worker.proofs.Tasks.{task_asked, task_outcomes, task_paid}
use Rattle.frame_worker.proofs.explorer.ExplorerCraft.perform.Goals as goal

pub ask-outcome-requires-clause-asked : goal.ask-outcome-requires-clause-asked
ask-outcome-requires-clause-asked g c =
    let x = c.args.self.now in
    let h = c.args.hand in
    task_asked g.J.Begun.systems g.J.Begun.limits (start g.J.Begun.limits g.J.Begun.systems g.J.Begun.carried) x.purse.now
    (hand h.seat h.account.share.parts h.front h.solver h.first h.parts) c.args.task c.requires.took c.in-Some.solver c.in-Some.is

pub returns-clause-did : goal.returns-clause-did
returns-clause-did g c =
    let x = c.args.self.now in
    let h = c.args.hand in
    let mine = hand h.seat h.account.share.parts h.front h.solver h.first h.parts in
    let first = start g.J.Begun.limits g.J.Begun.systems g.J.Begun.carried in
    let lent = c.ask-outcome.new.purse in
    let e = c.ask-outcome.ensures in
    let own : IsSeatOf x.purse.now lent.seat = subst (λ (p : SharedPurse). IsSeatOf p lent.seat) e.kept.purse e.ready in
    let P = IsOutcomeOf g.J.Begun.systems c.args.task c.args.task.subject in
    record {
      held = task_paid g.J.Begun.systems g.J.Begun.limits first x.purse.now mine c.args.task c.requires.took c.in-Some.solver c.in-Some.is
          c.ask-outcome.new.solver lent.seat own e.kept.shares e.systems e.lemmas e.pays;
      outcome = subst (λ (o : Option ClaimOutcome). IfSome o P) (sym c.ok.ensures.value)
          (task_outcomes g.J.Begun.systems g.J.Begun.limits first x.purse.now mine c.args.task c.requires.took c.in-Some.solver c.in-Some.is lent.refused
          c.ask-outcome.result e.answer);
    }
