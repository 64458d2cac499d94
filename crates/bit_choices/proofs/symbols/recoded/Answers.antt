-- The same places.
use Rattle.std.proofs.Common.{ap, ◌∙◌}
use Rattle.std.specs.Prelude.{slice_get}
use Rattle.bit_arith.specs.Number.{number_of}
use Rattle.bit_choices.proofs.OfSymbols.{kept_code}
use Rattle.bit_choices.proofs.symbols.recoded.Goals as goal

pub returns-in_ok-same-clause-value : goal.returns-in_ok-same-clause-value
returns-in_ok-same-clause-value c = λ v s h e.
    ap (slice_get c.args.to.now) (c.in_ok-same.ensures.value v h)
    ∙ kept_code c.args.from.now c.args.to.now (number_of v c.args.code.now) c.args.width s c.requires.wide (c.begins.ensures c.if-begins.true) e
