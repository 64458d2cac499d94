use Rattle.std.proofs.Common.{◌∙◌, refl}
use Rattle.frame_query.proofs.Followed.{added_retired}
use Rattle.frame_query.proofs.following.add_copy.Goals as goal

pub returns-then-not-lemma-clause-done : goal.returns-then-not-lemma-clause-done
returns-then-not-lemma-clause-done c =
    added_retired c.args.copy.now c.push.new.self c.retire.new.self c.len-n.result c.in_ok-clause.clause c.args.lemma.now.level c.args.lemma.now c.len-n.ensures
    c.in_ok-push.ensures.done c.retire.ensures (c.in_ok-clause.ensures ∙ c.as_slice.ensures) refl c.if-not-lemma.true
