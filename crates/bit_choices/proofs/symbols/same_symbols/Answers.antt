-- By the codes, or symbol by symbol.
use Rattle.std.proofs.Common.{◌∙◌}
use Rattle.bit_arith.specs.Number.{number_of}
use Rattle.bit_choices.proofs.OfSymbols.{begun, eqb_turned}
use Rattle.bit_choices.proofs.symbols.same_symbols.Goals as goal

pub returns-in_ok-alike-clause-value : goal.returns-in_ok-alike-clause-value
returns-in_ok-alike-clause-value c = λ v s t h es et.
    c.in_ok-alike.ensures.value v h
    ∙ begun c.args.xs.now c.args.ys.now (number_of v c.args.code.now) (number_of v c.args.other.now) s t c.requires.ys_distinct (c.begins-first.ensures c.if-first.true) es et

pub returns-in_ok-turned-clause-value : goal.returns-in_ok-turned-clause-value
returns-in_ok-turned-clause-value c = λ v s t h es et.
    c.in_ok-turned.ensures.value v h
    ∙ begun c.args.ys.now c.args.xs.now (number_of v c.args.other.now) (number_of v c.args.code.now) t s c.requires.xs_distinct (c.begins-second.ensures c.if-second.true) et es
    ∙ eqb_turned t s

pub returns-in_ok-over-clause-value : goal.returns-in_ok-over-clause-value
returns-in_ok-over-clause-value c = λ v s t h es et. c.in_ok-over.ensures.value v t s h et es ∙ eqb_turned t s
