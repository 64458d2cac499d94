-- The law.
use Rattle.token_roles.proofs.EachRole.{claim_is, constraint_is, declaration_is, named_is, operator_is, reserved_is, step_is, timed_is}
use Rattle.token_roles.proofs.one_role.kinds_have_their_roles.Goals as goal

pub returns-clause-operators : goal.returns-clause-operators
returns-clause-operators c = operator_is

pub returns-clause-reserved : goal.returns-clause-reserved
returns-clause-reserved c = reserved_is

pub returns-clause-named : goal.returns-clause-named
returns-clause-named c = named_is

pub returns-clause-steps : goal.returns-clause-steps
returns-clause-steps c = step_is

pub returns-clause-timed : goal.returns-clause-timed
returns-clause-timed c = timed_is

pub returns-clause-declarations : goal.returns-clause-declarations
returns-clause-declarations c = declaration_is

pub returns-clause-constraints : goal.returns-clause-constraints
returns-clause-constraints c = constraint_is

pub returns-clause-claims : goal.returns-clause-claims
returns-clause-claims c = claim_is
