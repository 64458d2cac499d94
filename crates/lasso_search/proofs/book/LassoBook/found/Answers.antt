use Rattle.std.proofs.Common.{◌∙◌}
use Rattle.lasso_search.proofs.Recorded.{lasso_at}
use Rattle.lasso_search.proofs.book.LassoBook.found.Goals as goal

pub returns-in-Some : goal.returns-in-Some
returns-in-Some c =
    lasso_at c.args.self.now c.deref-entry-items.result.now c.loop-entry.entry-index c.entry-item.result c.in-Some.lasso.now
    (c.deref-entry-items.ensures.value ∙ c.self.view_is) c.loop-entry-test.true c.entry-item.is c.in-Some.ensures
