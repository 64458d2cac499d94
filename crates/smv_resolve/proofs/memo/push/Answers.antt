use Rattle.std.proofs.Common.{refl}
use Rattle.smv_resolve.proofs.Growing.{Grows-at, part_of_new}
use Rattle.smv_resolve.proofs.Parts.{parts_of-push}
use Rattle.smv_resolve.proofs.Knowing.{AllKnown_grown}
use Rattle.smv_resolve.proofs.memo.push.Goals as goal

pub returns-clause-grows : goal.returns-clause-grows
returns-clause-grows c = Grows-at c.args.memo.now.nodes c.push.new.self c.args.node c.in_ok-push.ensures.ok

pub returns-clause-known : goal.returns-clause-known
returns-clause-known c = λ p. AllKnown_grown p c.args.memo.now _ refl (Grows-at c.args.memo.now.nodes c.push.new.self c.args.node c.in_ok-push.ensures.ok)

pub returns-clause-value : goal.returns-clause-value
returns-clause-value c = rw (c.in_ok-push.ensures.ok, c.len-number.ensures) (part_of_new c.args.memo.now.nodes c.args.node)

pub returns-clause-parts : goal.returns-clause-parts
returns-clause-parts c = rw (c.in_ok-push.ensures.ok) (parts_of-push c.args.memo.now.nodes c.args.node)
