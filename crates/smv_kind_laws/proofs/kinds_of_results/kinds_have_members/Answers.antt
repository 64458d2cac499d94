use Rattle.smv_kind_laws.proofs.Members.{all_branches, all_members, all_united, range_has}
use Rattle.smv_kind_laws.proofs.kinds_of_results.kinds_have_members.Goals as goal

pub returns-clause-members : goal.returns-clause-members
returns-clause-members c = λ xs k e. all_members xs k e

pub returns-clause-union : goal.returns-clause-union
returns-clause-union c = λ xs k e. all_united xs k e

pub returns-clause-range : goal.returns-clause-range
returns-clause-range c = λ x y k a b z e h l low high. range_has x.kind y.kind k a b z h l low high e

pub returns-clause-choice : goal.returns-clause-choice
returns-clause-choice c = λ f xs k e. all_branches xs k e
