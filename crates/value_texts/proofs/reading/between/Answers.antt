-- An integer that is not between the bounds.
use Rattle.std.proofs.Common.{subst, ◌∙◌}
use Rattle.std.proofs.lemmas.Bool.{false≢true}
use Rattle.value_texts.specs.Read.{IsIntRead}
use Rattle.value_texts.proofs.OfReading.{between_passed, fits, outside}
use Rattle.value_texts.proofs.reading.between.Goals as goal

pub returns-else-is_between : goal.returns-else-is_between
returns-else-is_between c = λ names text read.
    let known = subst (IsIntRead text) c.in_ok-z.was read in
    let passed = between_passed c.args.low c.args.high c.in_ok-z.z c.ranges.low c.ranges.high (fits c.in_ok-z.z known.0) in
    outside names c.args.low c.args.high c.in_ok-z.z text c.requires known (λ inside. false≢true (c.if-is_between.ensures ∙ passed ∙ inside))
