use Rattle.frame_tests.proofs.OfThreeBits.{middle_may}
use Rattle.frame_tests.proofs.frames.add_middle.Goals as goal

pub add_obligation-requires-clause-parent : goal.add_obligation-requires-clause-parent
add_obligation-requires-clause-parent c = middle_may c.args.frames.now c.in_ok-found.found c.requires.frames c.in_ok-found.ensures
