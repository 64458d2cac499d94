-- The variables of a section are of its kind.
use Rattle.smv_declared.proofs.Adding.{first_of-map}
use Rattle.std.proofs.lemmas.List.Folds.{flat_map-map}
use Rattle.smv_declared.proofs.declarations.add_section.Goals as goal

pub returns-clause-judged : goal.returns-clause-judged
returns-clause-judged c = rw (c.variables_in-kind.ensures, first_of-map) c.add_variables.ensures.judged

pub returns-clause-types : goal.returns-clause-types
returns-clause-types c = λ all so_far. rw (c.variables_in-kind.ensures, flat_map-map) (c.add_variables.ensures.types all so_far)
