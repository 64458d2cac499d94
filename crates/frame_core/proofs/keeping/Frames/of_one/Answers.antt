use Rattle.frame_core.proofs.States.{alike_one}
use Rattle.frame_core.proofs.keeping.Frames.of_one.Goals as goal

pub new-requires-clause-alike : goal.new-requires-clause-alike
new-requires-clause-alike c = alike_one c.from_ref.result.now c.args.system.now c.from_ref.ensures.value
