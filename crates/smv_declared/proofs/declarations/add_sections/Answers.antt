-- The types of no sections, and of one more.
use Rattle.std.proofs.Common.{refl, arith}
use Rattle.std.proofs.lemmas.Grind.{common_steps}
use Rattle.smv_declared.specs.Types.{types_in}
use Rattle.smv_declared.proofs.Joined.{none_yet, one_further}
use Rattle.smv_declared.proofs.declarations.add_sections.Goals as goal

pub loop-section-init : goal.loop-section-init
loop-section-init c = record {
  left = refl;
  added = λ all so_far. none_yet (types_in c.args.scope.now.program c.args.at) c.args.sections.now all c.args.tally.now so_far;
}

pub loop-section-preserved : goal.loop-section-preserved
loop-section-preserved c = record {
  left = grind (arith, common_steps);
  added = λ all so_far.
      one_further (types_in c.args.scope.now.program c.args.at) c.args.sections.now c.loop-section.section-index c.section-item.result all c.add_section.new.tally
      c.loop-section-test.true c.section-item.is (c.in_ok-add_section.ensures.types _ (c.loop-section.invariant.added all so_far));
}
