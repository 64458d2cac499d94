-- The last nodes are the operands.
use Rattle.std.proofs.Common.{List, subst, sym}
use Rattle.bit_outcomes.specs.declared.told.Told.{Told}
use Rattle.bit_outcomes.specs.Telling.{TellsAll}
use Rattle.smv_resolve.specs.Resolved.{last_of}
use Rattle.bit_outcomes.proofs.OfNodes.{last_stand, tells_last}
use Rattle.bit_outcomes.proofs.nodes.applied_at.Goals as goal

pub applied-requires : goal.applied-requires
applied-requires c = rw c.last.ensures (last_stand c.args.graph.now c.args.count c.args.here.now c.requires)

pub returns-clause-told : goal.returns-clause-told
returns-clause-told c = λ place v os h all.
    c.in_ok-told.ensures.told place v (last_of c.args.count os) h
    (subst (λ (ts : List Told). TellsAll v ts (last_of c.args.count os)) (sym c.last.ensures) (tells_last v c.args.count c.args.here.now os all))
