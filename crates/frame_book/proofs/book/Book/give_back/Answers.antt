use Rattle.std.proofs.Common.{sym, ◌∙◌}
use Rattle.frame_book.proofs.Picked.{returns_counted}
use Rattle.frame_book.proofs.book.Book.give_back.Goals as goal

pub invariant_of-self : goal.invariant_of-self
invariant_of-self g c =
    c.self.invariant ∙ sym (returns_counted c.self.inside.pages c.give_back.new.self c.args.claim c.give_back.result c.give_back.ensures)
