-- One operand more.
use Rattle.bit_outcomes.proofs.OfMembers.{sets_together}
use Rattle.bit_outcomes.proofs.members.with_row.Goals as goal

pub returns-in_ok-row-in-Some-clause-told : goal.returns-in_ok-row-in-Some-clause-told
returns-in_ok-row-in-Some-clause-told c = λ v x o h a b.
    let row = c.in_ok-row-in-Some.row in
    let before = c.in_ok-row-in-Some.ensures.extends.kept v h in
    let more = rw c.in-Some.is at c.in_ok-as_row.ensures.told in
    rw c.in_ok-row-in-Some.ensures.members
    (sets_together v c.args.made.fault c.in-Some.more.fault row.fault c.args.made.members c.in-Some.more.members x o (c.in_ok-row-in-Some.ensures.fault v h) a (more v o before b))
