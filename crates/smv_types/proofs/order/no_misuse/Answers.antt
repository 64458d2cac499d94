-- What the items break over these slots and types is what the program breaks.
use Rattle.std.proofs.Common.{map, subst}
use Rattle.smv_resolve.specs.Items.{item_by}
use Rattle.smv_verdicts.specs.Verdicts.{Judges}
use Rattle.smv_types.proofs.Laying.{misused_is}
use Rattle.smv_types.proofs.order.no_misuse.Goals as goal

pub returns : goal.returns
returns c =
    subst (λ r. Judges c.kinds.result r)
    (misused_is c.args._scope.now.program c.args.slots.now c.args.types.now (map (item_by c.args.laid.now.nodes) c.args.laid.now.items) c.requires.slots c.requires.types c.requires.items)
    c.kinds.ensures
