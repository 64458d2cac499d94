-- The lasso over bits is a lasso that violates the specification.
use Rattle.smv_resolve.specs.Items.{item_by}
use Rattle.smv_cli.proofs.formulas.shown.Goals as goal

pub replayed_lasso-requires-clause-violates : goal.replayed_lasso-requires-clause-violates
replayed_lasso-requires-clause-violates c =
    c.in_ok-lasso.ensures.violates c.args.typed.now.scope.program (item_by c.args.typed.now.nodes c.args.spec.now) c.requires.stands c.requires.violates
