-- A run in a range.
use Rattle.std.proofs.Common.{arith}
use Rattle.std.proofs.lemmas.Int.{to_z-of_z}
use Rattle.value_sets.proofs.Runs.{all_between}
use Rattle.value_sets.proofs.spans.run_is_of.Goals as goal

pub returns-in-Range : goal.returns-in-Range
returns-in-Range c =
    let whole = all_between c.args.low c.args.high c.in-Range.least c.in-Range.greatest in
    rw c.in-Range.is (grind (arith, to_z-of_z, c.run_is_between.ensures, c.from.ensures, c.from-in-Range.ensures, whole))
