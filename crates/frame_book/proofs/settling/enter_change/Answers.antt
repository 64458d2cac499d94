use Rattle.std.proofs.Common.{sym, ◌∙◌}
use Rattle.frame_book.proofs.settling.enter_change.Goals as goal

pub retire-requires-clause-in_range : goal.retire-requires-clause-in_range
retire-requires-clause-in_range c = (c.requires.added (sym c.is_addition-added.ensures ∙ c.if-added.true)).0

pub retire-requires-clause-live : goal.retire-requires-clause-live
retire-requires-clause-live c = (c.requires.added (sym c.is_addition-added.ensures ∙ c.if-added.true)).1

pub retire-requires-clause-covered : goal.retire-requires-clause-covered
retire-requires-clause-covered c = (c.requires.added (sym c.is_addition-added.ensures ∙ c.if-added.true)).2
