use Rattle.std.proofs.Common.{ℕ, List, sym, subst}
use Rattle.bit_formula.specs.Agreeing.{IsJointCoding}
use Rattle.bit_lassos.proofs.Replaying.{violates}
use Rattle.bit_lassos.proofs.violations_over_bits.what_violates_over_bits.Goals as goal

pub returns : goal.returns
returns c = λ p spec r rows start stands over.
    let coding : IsJointCoding p r.reads = subst (λ (reads : List ℕ). IsJointCoding p reads) (sym stands.reads) (c.is_joint_coding.ensures p stands.parts stands.types) in
    violates p spec r stands (c.what_stands_agrees_with_formulas.ensures p spec r stands) coding (c.what_is_read.ensures p stands.parts) rows start over
