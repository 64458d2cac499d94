use Rattle.std.proofs.Common.{sym, ap, ◌∙◌}
use Rattle.smv_scope.specs.Lookup.{member_target}
use Rattle.smv_scope.proofs.Following.{members_last}
use Rattle.smv_scope.proofs.lookup.members_target.Goals as goal

pub returns-then-k-members : goal.returns-then-k-members
returns-then-k-members c =
    let p = c.args.scope.now.program in
    c.member_target-target.ensures ∙ ap (member_target p c.loop-k.here) c.as_str.ensures
    ∙ sym (members_last p c.loop-k.here c.args.members.now c.loop-k.k c.index-members-k.result c.loop-k-test.true c.index-members-k.is c.if-k-members.true)
    ∙ c.loop-k.invariant
