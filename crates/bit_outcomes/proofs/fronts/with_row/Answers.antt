-- One condition more.
use Rattle.bit_outcomes.proofs.OfFronts.{front_more}
use Rattle.bit_outcomes.proofs.fronts.with_row.Goals as goal

pub returns-clause-told : goal.returns-clause-told
returns-clause-told c = λ v f o a h before one told.
    let last = c.in_ok-members.ensures.extends.kept v h in
    let second = c.in_ok-undecided.ensures.extends.kept v last in
    let first = c.in_ok-fault.ensures.extends.kept v second in
    let row = c.args.row in
    front_more v c.args.front f before c.args.failed c.args.b row.fault c.in_ok-here.here row.members
    (record { undecided = c.in_ok-undecided.undecided; fault = c.in_ok-fault.fault; members = c.in_ok-members.members }) (c.in_ok-here.ensures.value v first) (c.in_ok-fault.ensures.value v second)
    (c.in_ok-undecided.ensures.value v last) (λ n x y. c.in_ok-members.ensures.there v h n x y) (λ w n. c.in_ok-members.ensures.value v w h n) o a one told
