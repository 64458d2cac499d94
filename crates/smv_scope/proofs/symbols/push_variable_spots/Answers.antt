use Rattle.std.proofs.Common.{◌∙◌, sym}
use Rattle.smv_scope.specs.Modules.{variables_in}
use Rattle.smv_scope.proofs.Declaring.{count_is}
use Rattle.smv_scope.proofs.Spots.{spots_next, spots_end}
use Rattle.smv_scope.proofs.symbols.push_variable_spots.Goals as goal

pub loop-k-preserved : goal.loop-k-preserved
loop-k-preserved c =
    let r = c.variables_in.result in
    spots_next variables_in c.args.sections.now c.loop-k.k c.index-sections-k.result c.loop-k.spots c.push_spots.new.spots _ c.loop-k-test.true c.index-sections-k.is
    (sym (count_is c.index-sections-k.result r.0 r.1.now c.variables_in.ensures)) c.in_ok-push_spots.ensures
    ∙ c.loop-k.invariant

pub returns : goal.returns
returns c = spots_end variables_in c.args.sections.now c.loop-k.k c.loop-k.spots c.loop-k-test.false ∙ c.loop-k.invariant
