-- The type is built from the limits and elements that were found.
use Rattle.std.proofs.Common.{◌∙◌, ap, map}
use Rattle.smv_declared.specs.Types.{element_of}
use Rattle.smv_declared.proofs.Building.{built}
use Rattle.smv_declared.proofs.declarations.type_within.Goals as goal

pub returns-clause-declared : goal.returns-clause-declared
returns-clause-declared c =
    built c.args.scope.now.program c.args._at c.args.variable.now c.args.dimensions.now c.args.element.now c.in_ok-elements.elements c.in_ok-bounds.bounds c.type_from.result
    c.requires.dimensions c.requires.element (c.in_ok-elements.ensures.elements ∙ ap (map (element_of c.args.scope.now.program)) c.written_elements.ensures)
    c.in_ok-bounds.ensures.bounds (c.type_from.ensures c.args.element.now c.in_ok-width.ensures.width c.in_ok-range.ensures.low c.in_ok-range.ensures.high)
