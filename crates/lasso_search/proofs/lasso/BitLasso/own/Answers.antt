use Rattle.std.proofs.Common.{◌∙◌, ap}
use Rattle.lasso_search.specs.Lassos.{Lasso}
use Rattle.lasso_search.proofs.OwnRows.{own_lasso}
use Rattle.lasso_search.proofs.lasso.BitLasso.own.Goals as goal

pub returns : goal.returns
returns c = λ f atoms ism.
    own_lasso c.args.system.now c.args.monitored.now.system c.args.self.now c.deref.result.now c.in_ok-rows.rows.items c.self.inside.start
    (c.deref.ensures.value ∙ ap (λ (r : Lasso). r.rows) c.self.view_is) (ap (λ (r : Lasso). r.start) c.self.view_is)
    c.in_ok-rows.ensures.size (c.in_ok-rows.ensures.each f atoms ism)
