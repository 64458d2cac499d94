use Rattle.smv_phrases.proofs.EachKind.{kind_is, own_kind}
use Rattle.smv_phrases.proofs.token_kinds.kinds_are_told_apart.Goals as goal

pub returns-clause-own : goal.returns-clause-own
returns-clause-own c = λ t. own_kind t.kind

pub returns-clause-no_other : goal.returns-clause-no_other
returns-clause-no_other c = λ k t e. kind_is k t.kind e
