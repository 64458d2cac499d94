-- The members of both.
use Rattle.std.proofs.Common.{subst, sym}
use Rattle.std.proofs.lemmas.List.Elements.{All-append}
use Rattle.bit_outcomes.specs.Telling.{MemberStands, MembersStand}
use Rattle.bit_outcomes.proofs.Kept.{members_kept}
use Rattle.bit_outcomes.proofs.members.with_all.Goals as goal

pub returns-clause-stands : goal.returns-clause-stands
returns-clause-stands c =
    let grown = c.in_ok-fault.ensures.extends in
    let h = c.or.new.self in (
      c.in_ok-fault.ensures.stands,
      subst (MembersStand h) (sym c.in_ok-append.ensures)
          (All-append (MemberStands h) c.args.made.members c.args.more.members (members_kept c.args.graph.now h grown c.args.made.members c.requires.made_stands.1)
          (members_kept c.args.graph.now h grown c.args.more.members c.requires.more_stands.1)),
    )
