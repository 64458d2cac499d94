-- One operand, or any others.
use Rattle.bit_outcomes.specs.declared.told.Told.{Told}
use Rattle.smv_meaning.specs.Outcomes.{united}
use Rattle.std.proofs.Common.{List, [], subst, sym}
use Rattle.bit_outcomes.specs.Telling.{Tells, TellsAll}
use Rattle.bit_outcomes.proofs.OfMembers.{united_single}
use Rattle.bit_outcomes.proofs.OfNodes.{single_is}
use Rattle.bit_outcomes.proofs.members.united.Goals as goal

pub returns-in_ok-copy-in-len1-clause-told : goal.returns-in_ok-copy-in-len1-clause-told
returns-in_ok-copy-in-len1-clause-told c = λ v os h all.
    let one = single_is c.args.operands.now c.a-item.result c.in-len1.len_at_least c.in-len1.len_below c.a-item.is in
    subst (λ (t : Told). Tells v t (united [] os)) (sym c.in_ok-copy-in-len1.ensures)
    (united_single v c.a-item.result os (subst (λ (ts : List Told). TellsAll v ts os) one all))
