-- The dimensions are the same, and so is the type of the elements.
use Rattle.std.proofs.Common.{List, subst}
use Rattle.smv_tree.specs.declared.tree.Dimension.{Dimension}
use Rattle.smv_declared.specs.Closed.{AreClosedDimensions}
use Rattle.smv_declared.proofs.Instances.{closed_variable}
use Rattle.smv_declared.proofs.closed.is_closed_variable.Goals as goal

pub returns-then-are_closed_dimensions : goal.returns-then-are_closed_dimensions
returns-then-are_closed_dimensions c = λ e.
    let p = c.args.scope.now.program in
    let P : List Dimension → Type 0 = λ ds. AreClosedDimensions p c.args.from ds in
    closed_variable p c.args.from c.args.variable.now (subst P c.as_slice.ensures (c.are_closed_dimensions.ensures c.if-are_closed_dimensions.true)) (c.is_closed_type.ensures e)
