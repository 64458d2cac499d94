-- A node that is not there gives nothing.
use Rattle.std.proofs.Common.{◌∙◌, sym, ap, arith}
use Rattle.smv_meaning.specs.Runs.{is_true}
use Rattle.bit_conditions.proofs.OfItems.{nothing_past}
use Rattle.bit_conditions.proofs.asking.true_at.Goals as goal

pub returns-else-k-told-clause-value : goal.returns-else-k-told-clause-value
returns-else-k-told-clause-value c = λ v os h tells given.
    c.constant.ensures.value v h ∙ sym (ap is_true (nothing_past os c.args.k (omega (arith, tells.long, c.if-k-told.false))))
