-- The variables of a section with their kind.
use Rattle.std.proofs.Common.{◌≡◌, List, length, map, ap, ◌∙◌}
use Rattle.std.proofs.lemmas.List.{length-map}
use Rattle.smv_tree.specs.declared.tree.Section.{Section}
use Rattle.smv_tree.specs.declared.tree.Variable.{Variable}
use Rattle.smv_tree.specs.declared.tree.VariableKind.{VariableKind}
use Rattle.smv_scope.specs.Modules.{variables_in}

-- so many variables are in a section
pub count_is : (x : Section) (kind : VariableKind) (vs : List Variable) → variables_in x ≡ map (λ (v : Variable). (kind, v)) vs → length (variables_in x) ≡ length vs
count_is x kind vs same = ap length same ∙ length-map vs (λ (v : Variable). (kind, v))
