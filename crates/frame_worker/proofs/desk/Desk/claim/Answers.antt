use Rattle.std.proofs.Common.{subst, ◌∙◌}
use Rattle.frame_book.specs.declared.claim.Claiming.{Claiming}
use Rattle.frame_book.specs.declared.claim.Claiming.TheVariants.{Task}
use Rattle.frame_book.specs.Book.{Claims}
use Rattle.frame_worker.proofs.Books.{claimed_by}
use Rattle.frame_worker.proofs.desk.Desk.claim.Goals as goal

pub returns-else-self-clause-task : goal.returns-else-self-clause-task
returns-else-self-clause-task g c =
    let b = c.args.self.now.book in
    let now = c.claim.new.self in
    let done : Claims b c.args.worker (Task c.in-Ok-Task.claim) now =
    subst (λ (a : Claiming). Claims b c.args.worker a now) c.in-Ok-Task.field-0-is c.in-Ok-Task.ensures.done in
    claimed_by g.J.Begun.systems g.J.Begun.limits g.J.Begun.carried b now c.args.worker c.in-Ok-Task.claim c.args.front.now c.again.result
    record { systems_are = c.args.self.now.systems_are; limits_are = c.args.self.now.limits_are; carried_are = c.args.self.now.carried_are }
    c.holds.ensures.kept done (c.requires.seen ∙ c.args.self.now.same c.requires.open) (c.again.ensures ∙ c.is_lost-self.ensures c.if-self.false)
