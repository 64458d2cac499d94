use Rattle.smv_kinds.specs.Kinds.{operands_of_temporal}
use Rattle.smv_kind_laws.proofs.Told.{formula_is_boolean, indexed_is_array, next_is_same, sought_is_boolean, whole_is_array}
use Rattle.smv_kind_laws.proofs.kinds_of_results.kinds_of_formulas.Goals as goal

pub returns-clause-sought : goal.returns-clause-sought
returns-clause-sought c = λ xs k e. sought_is_boolean xs k e

pub returns-clause-temporal : goal.returns-clause-temporal
returns-clause-temporal c = λ o xs k e. formula_is_boolean (operands_of_temporal o) xs k e

pub returns-clause-indexed : goal.returns-clause-indexed
returns-clause-indexed c = λ xs k e. indexed_is_array xs k e

pub returns-clause-whole : goal.returns-clause-whole
returns-clause-whole c = λ xs k e. whole_is_array xs k e

pub returns-clause-next : goal.returns-clause-next
returns-clause-next c = next_is_same
