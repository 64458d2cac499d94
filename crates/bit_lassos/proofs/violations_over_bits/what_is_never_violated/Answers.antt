use Rattle.std.proofs.Common.{ℕ, List, sym, subst}
use Rattle.bit_formula.specs.Agreeing.{IsJointCoding}
use Rattle.bit_lassos.proofs.Reaching.{unviolated, unviolated_within}
use Rattle.bit_lassos.proofs.violations_over_bits.what_is_never_violated.Goals as goal

pub returns-clause-all : goal.returns-clause-all
returns-clause-all c = λ p spec r stands never.
    let coding : IsJointCoding p r.reads = subst (λ (reads : List ℕ). IsJointCoding p reads) (sym stands.reads) (c.is_joint_coding.ensures p stands.parts stands.types) in
    unviolated p spec r stands (c.what_stands_agrees_with_formulas.ensures p spec r stands) coding (c.what_is_read.ensures p stands.parts) never

pub returns-clause-within : goal.returns-clause-within
returns-clause-within c = λ p spec r h bound stands never.
    let coding : IsJointCoding p r.reads = subst (λ (reads : List ℕ). IsJointCoding p reads) (sym stands.reads) (c.is_joint_coding.ensures p stands.parts stands.types) in
    unviolated_within p spec r stands (c.what_stands_agrees_with_formulas.ensures p spec r stands) coding (c.what_is_read.ensures p stands.parts) h bound never
