-- One node more.
use Rattle.std.proofs.Common.{rules}
use Rattle.smv_resolve.proofs.Growing.{Grows-at}
use Rattle.smv_resolve.proofs.Parts.{parts_of-push}
use Rattle.smv_layout.proofs.Standing.{IsNode_pushed}
use Rattle.smv_layout.proofs.nodes.push.Goals as goal

pub returns-clause-grows : goal.returns-clause-grows
returns-clause-grows c = Grows-at c.args.nodes.now c.push.new.self c.args.node c.in_ok-push.ensures.ok

pub returns-clause-parts : goal.returns-clause-parts
returns-clause-parts c = rw (c.in_ok-push.ensures.ok) (parts_of-push c.args.nodes.now c.args.node)

pub returns-clause-node : goal.returns-clause-node
returns-clause-node c = IsNode_pushed c.args.nodes.now c.push.new.self c.args.node c.len-number.result c.in_ok-push.ensures.ok c.len-number.ensures
