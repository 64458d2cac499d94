-- One dimension more, and all of them.
use Rattle.std.proofs.Common.{List, subst, refl, arith}
use Rattle.std.proofs.lemmas.List.{take_all}
use Rattle.smv_tree.specs.declared.tree.Dimension.{Dimension}
use Rattle.smv_declared.specs.Closed.{AreClosedDimensions}
use Rattle.smv_declared.proofs.Instances.{dimensions_more}
use Rattle.smv_declared.proofs.closed.are_closed_dimensions.Goals as goal

pub loop-dimension-preserved : goal.loop-dimension-preserved
loop-dimension-preserved c =
    dimensions_more c.args.scope.now.program c.args.from c.args.dimensions.now c.loop-dimension.dimension-index c.dimension-item.result c.loop-dimension-test.true c.dimension-item.is
    c.loop-dimension.invariant (c.if-not-are_closed_limits.ensures refl)

pub returns : goal.returns
returns c = λ e.
    let P : List Dimension → Type 0 = λ ds. AreClosedDimensions c.args.scope.now.program c.args.from ds in
    subst P (take_all c.loop-dimension.dimension-index c.args.dimensions.now (omega arith)) c.loop-dimension.invariant
