-- One member more.
use Rattle.std.proofs.Common.{subst, sym}
use Rattle.bit_outcomes.specs.Telling.{MemberStands}
use Rattle.bit_outcomes.proofs.Kept.{extends_trans, members_kept, symbolic_kept}
use Rattle.bit_outcomes.proofs.OfMembers.{among_more, there_at}
use Rattle.bit_outcomes.proofs.members.among.Goals as goal

pub is_here-requires-clause-member_stands : goal.is_here-requires-clause-member_stands
is_here-requires-clause-member_stands c =
    subst (MemberStands c.members.graph) (sym c.index-members-i.is) (c.members.invariant.members_stand c.members.i c.index-members-i.result c.members-test.true)

pub members-preserved : goal.members-preserved
members-preserved c =
    let before = c.members.invariant in
    let here = c.in_ok-here.ensures in
    let more = c.in_ok-more.ensures in
    let g = c.members.graph in
    let k = c.or.new.self in
    let ms = c.args.members.now in
    let m = c.index-members-i.result in
    let grown = extends_trans g c.is_here.new.graph k here.extends more.extends in
    record {
      extends = extends_trans c.args.graph.now g k before.extends grown;
      x_stands = symbolic_kept g k grown c.args.x.now before.x_stands;
      members_stand = members_kept g k grown ms before.members_stand;
      stands = more.stands;
      value = λ v w h dx there.
          let after = more.extends.kept v h in
          let first = here.extends.kept v after in
          among_more v c.members.any c.in_ok-here.here c.in_ok-more.more w ms c.members.i m c.members-test.true c.index-members-i.is (before.value v w first dx there)
          (here.value v w after dx (there_at v ms c.members.i m c.members-test.true c.index-members-i.is there)) (more.value v h);
    }
