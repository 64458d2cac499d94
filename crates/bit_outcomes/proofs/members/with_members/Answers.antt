-- One member more.
use Rattle.std.proofs.Common.{◌≡◌, ◌+◌, ◌&&◌, ◌||◌, List, take, subst, sym}
use Rattle.std.specs.Prelude.{All}
use Rattle.std.specs.List.{list_any}
use Rattle.std.proofs.lemmas.List.Elements.{All-push}
use Rattle.bit_graph.specs.Meaning.{edge_value}
use Rattle.bit_outcomes.specs.declared.told.Member.{Member}
use Rattle.bit_outcomes.specs.Telling.{IsThere, MemberStands, MembersStand, is_member}
use Rattle.bit_outcomes.proofs.Kept.{edge_kept, extends_refl, extends_trans, members_kept}
use Rattle.bit_outcomes.proofs.OfMembers.{there_more, with_none, with_one}
use Rattle.bit_outcomes.proofs.members.with_members.Goals as goal

pub guarded-requires-clause-member_stands : goal.guarded-requires-clause-member_stands
guarded-requires-clause-member_stands c =
    subst (MemberStands c.more.graph) (sym c.index-more-i.is) (c.more.invariant.more_stand c.more.i c.index-more-i.result c.more-test.true)

pub more-preserved : goal.more-preserved
more-preserved c =
    let before = c.more.invariant in
    let made = c.in_ok-member.ensures in
    let g = c.more.graph in
    let k = c.guarded.new.graph in
    let ms = c.args.more.now in
    let all = c.more.all in
    let m = c.index-more-i.result in
    let r = c.in_ok-member.member in
    let pushed = c.in_ok-push.ensures.ok in
    record {
      extends = extends_trans c.args.graph.now g k before.extends made.extends;
      condition_stands = edge_kept g k made.extends c.args.condition before.condition_stands;
      more_stand = members_kept g k made.extends ms before.more_stand;
      all_stand = subst (MembersStand k) (sym pushed) (All-push (MemberStands k) all r (members_kept g k made.extends all before.all_stand) made.stands);
      there = λ v h first later.
          subst (λ (xs : List Member). All (IsThere v) xs) (sym pushed)
          (there_more v c.args.condition all ms c.more.i m r c.more-test.true c.index-more-i.is (made.present v h) made.which later (before.there v (made.extends.kept v h) first later));
      value = λ v w h.
          subst (λ (xs : List Member). list_any (is_member v w) xs ≡ (list_any (is_member v w) c.args.made || (edge_value v c.args.condition && list_any (is_member v w) (take (c.more.i + 1) ms)))) (sym pushed)
          (with_one v c.args.condition all c.args.made ms c.more.i m r w c.more-test.true c.index-more-i.is (made.present v h) made.which (before.value v w (made.extends.kept v h)));
    }

pub more-init : goal.more-init
more-init c = record {
  extends = extends_refl c.args.graph.now;
  condition_stands = c.requires.condition_stands;
  more_stand = c.requires.more_stand;
  all_stand = c.requires.made_stand;
  there = λ v h first later. first;
  value = λ v w h. with_none v c.args.condition c.args.made c.args.more.now w;
}
