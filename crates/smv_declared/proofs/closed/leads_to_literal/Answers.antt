-- A definition that is a literal.
use Rattle.std.proofs.Common.{sym, subst}
use Rattle.smv_scope.specs.declared.target.NameTarget.{NameTarget}
use Rattle.smv_scope.specs.Targets.{seen}
use Rattle.smv_declared.specs.Closed.{LeadsAlike}
use Rattle.smv_declared.proofs.closed.leads_to_literal.Goals as goal

pub returns-in-Defined : goal.returns-in-Defined
returns-in-Defined c = λ e. let P : NameTarget → Type 0 = λ t. LeadsAlike (seen t) in subst P (sym c.in-Defined.is) (c.is_literal.ensures e)
