use Rattle.std.proofs.Common.{sym, ◌∙◌}
use Rattle.frame_book.proofs.Picked.{claims_counted}
use Rattle.frame_book.proofs.book.Book.claim.Goals as goal

pub invariant_of-self-2 : goal.invariant_of-self-2
invariant_of-self-2 g c =
    c.self.invariant ∙ sym (claims_counted c.self.inside.pages c.claim.new.self c.args.worker c.in_ok-claiming.claiming c.in_ok-claiming.ensures.done)
