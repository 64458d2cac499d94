use Rattle.smv_text.proofs.Cuts.{one_text, one_refusal, never_both}
use Rattle.smv_text.proofs.one_tokenization.are_tokens_once.Goals as goal

pub returns-clause-tokens : goal.returns-clause-tokens
returns-clause-tokens c = one_text

pub returns-clause-refusal : goal.returns-clause-refusal
returns-clause-refusal c = one_refusal

pub returns-clause-apart : goal.returns-clause-apart
returns-clause-apart c = never_both
