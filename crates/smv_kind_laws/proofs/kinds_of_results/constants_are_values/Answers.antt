use Rattle.smv_kind_laws.proofs.Told.{constant_is_given, constant_is_value, value_has_kind}
use Rattle.smv_kind_laws.proofs.kinds_of_results.constants_are_values.Goals as goal

pub returns-clause-folded : goal.returns-clause-folded
returns-clause-folded c = constant_is_value

pub returns-clause-told : goal.returns-clause-told
returns-clause-told c = constant_is_given

pub returns-clause-own : goal.returns-clause-own
returns-clause-own c = value_has_kind
