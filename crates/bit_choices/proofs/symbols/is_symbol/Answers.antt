-- The place of the symbol, if it has one.
use Rattle.std.proofs.Common.{arith, sym, ap, ◌∙◌}
use Rattle.bit_arith.specs.Number.{number_of}
use Rattle.bit_choices.proofs.OfSymbols.{placed, unplaced}
use Rattle.bit_choices.proofs.symbols.is_symbol.Goals as goal

pub returns-in-None-clause-value : goal.returns-in-None-clause-value
returns-in-None-clause-value c = λ v h.
    c.constant.ensures.value v h ∙ unplaced c.args.symbols.now c.args.symbol (number_of v c.args.code.now) (sym c.place.ensures ∙ c.in-None.is)

pub returns-in_ok-e-in-Some-clause-value : goal.returns-in_ok-e-in-Some-clause-value
returns-in_ok-e-in-Some-clause-value c = λ v h.
    c.in_ok-e-in-Some.ensures.value v h
    ∙ placed c.args.symbols.now c.args.symbol c.in-Some.k (number_of v c.args.code.now) c.requires.distinct (sym c.place.ensures ∙ c.in-Some.is)
