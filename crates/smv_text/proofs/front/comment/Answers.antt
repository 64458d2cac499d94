use Rattle.smv_text.proofs.Longest.{closed_longest, open_longest}
use Rattle.smv_text.proofs.front.comment.Goals as goal

pub returns-in-Some : goal.returns-in-Some
returns-in-Some c = closed_longest c.args.bytes.now c.split_at.result.1.now c.in-Some.len c.requires.comment c.split_at.ensures.back c.in-Some.ensures.end

pub returns-in-None : goal.returns-in-None
returns-in-None c = open_longest c.args.bytes.now c.split_at.result.1.now c.requires.comment c.split_at.ensures.back c.in-None.ensures.end
