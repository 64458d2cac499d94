use Rattle.frame_core.proofs.States.{found_of_step}
use Rattle.frame_core.proofs.facts.StateWitness.of_step.Goals as goal

pub new-requires : goal.new-requires
new-requires c =
    found_of_step c.args.step c.system-system.result.now c.into_values-values.result c.args.first c.system-system.ensures.value c.into_values-values.ensures
    c.system-system.ensures.shown c.requires
