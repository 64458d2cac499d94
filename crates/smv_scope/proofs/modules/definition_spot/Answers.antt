use Rattle.std.proofs.Common.{ap, ◌∙◌, slice_get}
use Rattle.std.specs.Option.{option_and_then}
use Rattle.smv_scope.specs.Modules.{definitions_in, sections_of}
use Rattle.smv_scope.specs.Symbols.{declared_at, definition_spots_by}
use Rattle.smv_scope.proofs.Spots.{at_spot}
use Rattle.smv_scope.proofs.modules.definition_spot.Goals as goal

pub returns-in-None : goal.returns-in-None
returns-in-None c =
    let ss = sections_of c.args.scope.now.program c.args.m in
    ap (λ o. option_and_then (declared_at definitions_in ss) (slice_get (definition_spots_by o) c.args.k)) c.in-None.ensures.value
    ∙ at_spot definitions_in ss (definition_spots_by (slice_get c.args.scope.now.symbols c.args.m)) c.args.k (c.args.scope.now.tabled c.args.m).4

pub returns-in-Some : goal.returns-in-Some
returns-in-Some c =
    let ss = sections_of c.args.scope.now.program c.args.m in
    ap (option_and_then (declared_at definitions_in ss)) (c.copied.ensures ∙ c.get-in-Some.ensures.value)
    ∙ ap (λ o. option_and_then (declared_at definitions_in ss) (slice_get (definition_spots_by o) c.args.k)) c.in-Some.ensures.value
    ∙ at_spot definitions_in ss (definition_spots_by (slice_get c.args.scope.now.symbols c.args.m)) c.args.k (c.args.scope.now.tabled c.args.m).4
