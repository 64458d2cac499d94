use Rattle.frame_core.specs.FrameLaw.{lemma_at}
use Rattle.frame_query.proofs.Followed.{follow_retired}
use Rattle.frame_query.proofs.following.follow_at.Goals as goal

pub returns-then-not-lemma : goal.returns-then-not-lemma
returns-then-not-lemma c =
    follow_retired c.args.copy.now c.raise.new.self c.retire.new.self c.args.n c.lemma-lemma.result.now (lemma_at c.args.lemmas.now c.args.n) c.requires.in_copy
    c.raise.ensures c.retire.ensures c.lemma-lemma.ensures c.requires.clause c.if-not-lemma.true
