-- What a parameter was given, and the body of a definition, is what names share.
use Rattle.smv_resolve.proofs.Sharing.{shared_given, shared_defined}
use Rattle.smv_resolve.proofs.Pushing.{pushed}
use Rattle.smv_resolve.proofs.pending.push_name.Goals as goal

pub returns-in-Given : goal.returns-in-Given
returns-in-Given c =
    pushed c.args.scope.now.program c.push_pending.result c.args.pending.now c.push_pending.new.pending _ c.in-Given.owner c.in-Given.argument.now c.push_pending.ensures c.requires
    (shared_given c.args.scope.now.program c.args.at c.args.name.now c.in-Given.of c.in-Given.parameter c.in-Given.owner c.in-Given.argument.now c.in-Given.ensures)

pub returns-in-Defined : goal.returns-in-Defined
returns-in-Defined c =
    pushed c.args.scope.now.program c.push_pending-in-Defined.result c.args.pending.now c.push_pending-in-Defined.new.pending _ c.in-Defined.of c.in-Defined.body.now c.push_pending-in-Defined.ensures c.requires
    (shared_defined c.args.scope.now.program c.args.at c.args.name.now c.in-Defined.of c.in-Defined.definition c.in-Defined.body.now c.in-Defined.ensures)
