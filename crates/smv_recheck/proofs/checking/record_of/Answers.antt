-- There is a system for each specification.
use Rattle.smv_resolve.specs.Items.{item_by}
use Rattle.smv_recheck.proofs.Recording.{has_system}
use Rattle.smv_recheck.proofs.checking.record_of.Goals as goal

pub system_of-system-requires : goal.system_of-system-requires
system_of-system-requires c =
    has_system c.args.flat.now.typed.scope.program c.args.built.now c.args.j (item_by c.args.flat.now.typed.nodes c.args.spec.now) c.requires.built c.requires.here
