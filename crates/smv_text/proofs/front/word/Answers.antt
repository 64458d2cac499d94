use Rattle.std.proofs.Common.{ap, ◌+◌, ℕ}
use Rattle.smv_text.proofs.Longest.{word_longest}
use Rattle.smv_text.proofs.front.word.Goals as goal

pub returns : goal.returns
returns c =
    word_longest c.args.bytes.now c.split_at.result.1.now c.split_at-2.result.0.now _ c.kind_of_word.result c.requires.some c.requires.word c.split_at.ensures.back (ap (λ (n : ℕ). n + 1) c.run_len-len.ensures.run) c.split_at-2.ensures.front c.kind_of_word.ensures
