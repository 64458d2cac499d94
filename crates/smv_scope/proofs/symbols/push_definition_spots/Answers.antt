use Rattle.std.proofs.Common.{ap, length, ◌∙◌}
use Rattle.smv_scope.specs.Modules.{definitions_in}
use Rattle.smv_scope.proofs.Spots.{spots_next, spots_end}
use Rattle.smv_scope.proofs.symbols.push_definition_spots.Goals as goal

pub loop-k-preserved : goal.loop-k-preserved
loop-k-preserved c =
    spots_next definitions_in c.args.sections.now c.loop-k.k c.index-sections-k.result c.loop-k.spots c.push_spots.new.spots _ c.loop-k-test.true c.index-sections-k.is
    (ap length c.definitions_in.ensures) c.in_ok-push_spots.ensures
    ∙ c.loop-k.invariant

pub returns : goal.returns
returns c = spots_end definitions_in c.args.sections.now c.loop-k.k c.loop-k.spots c.loop-k-test.false ∙ c.loop-k.invariant
