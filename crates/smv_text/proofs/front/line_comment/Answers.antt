use Rattle.std.proofs.Common.{ap, ◌+◌, ℕ}
use Rattle.smv_text.proofs.Longest.{line_longest}
use Rattle.smv_text.proofs.front.line_comment.Goals as goal

pub returns : goal.returns
returns c = line_longest c.args.bytes.now c.split_at.result.1.now _ c.requires.comment c.split_at.ensures.back (ap (λ (n : ℕ). n + 2) c.run_len.ensures.run)
