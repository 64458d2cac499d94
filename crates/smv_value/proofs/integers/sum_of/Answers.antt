use Rattle.std.proofs.Common.{FitsSigned, w64, ◌*ℤ◌}
use Rattle.std.proofs.lemmas.Int.{to_z-of_z}
use Rattle.smv_value.proofs.Products.{product_fits}
use Rattle.smv_value.proofs.integers.sum_of.Goals as goal

pub returns-in-Multiply : goal.returns-in-Multiply
returns-in-Multiply c =
    let left : FitsSigned w64 c.args.a = c.ranges.a in
    let right : FitsSigned w64 c.args.b = c.ranges.b in
    let both : FitsSigned w64 (c.args.a *ℤ c.args.b) = product_fits c.args.a c.args.b c.requires.left c.requires.right in
    rw c.in-Multiply.is (simp to_z-of_z)
