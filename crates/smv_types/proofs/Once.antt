-- What is right to say is one thing.
use Rattle.smv_tree.specs.declared.tree.Program.{Program}
use Rattle.smv_verdicts.specs.Verdicts.{Exactly}
use Rattle.smv_names.specs.Rules.{names_verdict}
use Rattle.smv_names.proofs.Once.{One, one_known, one_then, names_judged_once}
use Rattle.smv_types.specs.Kinds.{too_deep}
use Rattle.smv_types.specs.Rules.{kinds_refusal, types_verdict}

-- of a program one thing is right to say
pub judged_once : (p : Program) → One (types_verdict p)
unfolding types_verdict
judged_once p =
    one_then (names_verdict p) _ (names_judged_once p)
    (one_then (Exactly (too_deep p)) (Exactly (kinds_refusal p)) (one_known (too_deep p)) (one_known (kinds_refusal p)))
