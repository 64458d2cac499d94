-- What a node says of the slot that it is holds.
use Rattle.std.proofs.Common.{ap, sym, ◌∙◌}
use Rattle.std.specs.Option.{option_copied}
use Rattle.smv_flat.proofs.Found.{found_so, none_past}
use Rattle.smv_flat.proofs.assigned.find_slot.Goals as goal

pub returns-in-None : goal.returns-in-None
returns-in-None c = none_past c.args.slots c.args.nodes.now c.args.k (sym c.at.ensures ∙ ap option_copied c.in-None.is)

pub returns-in-Some : goal.returns-in-Some
returns-in-Some c =
    rw c.found_in.ensures (found_so c.args.slots c.args.nodes.now c.args.k c.in-Some.node.now (sym c.at.ensures ∙ ap option_copied c.in-Some.is))
