-- One member more.
use Rattle.std.proofs.Common.{subst, sym}
use Rattle.bit_outcomes.specs.Telling.{MemberStands}
use Rattle.bit_outcomes.proofs.Kept.{extends_trans, members_kept}
use Rattle.bit_outcomes.proofs.OfMembers.{there_at}
use Rattle.bit_outcomes.proofs.OfAsked.{out_more}
use Rattle.bit_outcomes.proofs.items.some_outside.Goals as goal

pub is_out-requires-clause-stands : goal.is_out-requires-clause-stands
is_out-requires-clause-stands c =
    subst (MemberStands c.members.graph) (sym c.index-members-i.is) (c.members.invariant.members_stand c.members.i c.index-members-i.result c.members-test.true)

pub members-preserved : goal.members-preserved
members-preserved c =
    let before = c.members.invariant in
    let out = c.in_ok-out.ensures in
    let more = c.in_ok-more.ensures in
    let g = c.members.graph in
    let k = c.or.new.self in
    let ms = c.args.members.now in
    let m = c.index-members-i.result in
    let grown = extends_trans g c.is_out.new.graph k out.extends more.extends in
    record {
      extends = extends_trans c.args.graph.now g k before.extends grown;
      members_stand = members_kept g k grown ms before.members_stand;
      stands = more.stands;
      value = λ v h there.
          let after = more.extends.kept v h in
          let first = out.extends.kept v after in
          out_more v c.args.declared.now c.members.any c.in_ok-out.out c.in_ok-more.more ms c.members.i m c.members-test.true c.index-members-i.is (before.value v first there)
          (out.value v after (there_at v ms c.members.i m c.members-test.true c.index-members-i.is there)) (more.value v h);
    }
