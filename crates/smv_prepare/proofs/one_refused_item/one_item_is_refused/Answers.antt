use Rattle.smv_prepare.proofs.OneItem.{free_apart, one_item, one_number, one_refusal}
use Rattle.smv_prepare.proofs.one_refused_item.one_item_is_refused.Goals as goal

pub returns-clause-number : goal.returns-clause-number
returns-clause-number c = one_number

pub returns-clause-item : goal.returns-clause-item
returns-clause-item c = one_item

pub returns-clause-refusal : goal.returns-clause-refusal
returns-clause-refusal c = one_refusal

pub returns-clause-apart : goal.returns-clause-apart
returns-clause-apart c = free_apart
